-- Single gives the one position that has the count and lies within half a zone of the reference, the upper end included.
-- Its zone is a quotient rounded to nearest, and that is the only whole number within a half; lifted by whole turns, so that this is said of naturals.
-- Assumes nothing.
use mathlib.Core.Path.{◌≡◌, sym, ap, ◌∙◌, subst}
use Prim.Native.Nat.{ℕ, suc, ◌+◌, ◌-◌, ◌*◌, ◌/◌, ◌%◌, ◌≤◌, ◌<◌}
use native.Mathlib.Nat.{div-add-mod', mul-le-mul, mul-le-mul_left, mul-le-mul_right}
use native.Mathlib.Omega.{arith}
use lib.Arith.{digits_mod}
use lib.Dec.{lit<}
use lib.IntN.{ℤ, pos, nat_abs, sub_ℕ, ◌+ℤ◌, ◌-ℤ◌, ◌*ℤ◌, *ℤ_comm}
use Rattle.positions.specs.Code.{nearestℕ}
use Rattle.positions.specs.Positions.{units, near}
use Rattle.positions.specs.Rounded.{beyond, Nearby}
use Rattle.positions.proofs.Shift.{sub_pos, sub_eq, sub_add, sub_mul, sub_minus, sub_modulo, abs_is, lifted, lifted_is, lifted_least}
use Rattle.positions.proofs.Rounding.{near_low, near_high, near_only}
use Rattle.positions.proofs.Naturals.{near_zone_up, near_is}

-- a reference w less k turns
module _ (P N w k c : ℕ) (p : 0 < P) (q : 0 < N * P) (small : c < P) (over : c * units ≤ w * (N * P)) where
  J : ℕ
  J = nearestℕ (w * (N * P) - c * units) (units * P)

  found : near P N (sub_ℕ w (k * units)) c ≡ sub_ℕ (J * P + c) (k * N * P)
  unfolding J
  found = near_is P N (k * N) J c (sub_ℕ w (k * units)) p (near_zone_up P N w k c p q over)

  gap : (r : ℕ) → beyond P N (sub_ℕ w (k * units)) (sub_ℕ r (k * N * P)) ≡ sub_ℕ (r * units) (w * (N * P))
  gap r =
      ap (λ (z : ℤ). z -ℤ sub_ℕ w (k * units) *ℤ pos (N * P)) (sub_mul r (k * N * P) units (lit< tt))
      ∙ ap (λ (z : ℤ). sub_ℕ (r * units) (k * N * P * units) -ℤ z) (sub_mul w (k * units) (N * P) q)
      ∙ sub_minus (r * units) (k * N * P * units) (w * (N * P)) (k * units * (N * P))
      ∙ sub_eq (r * units + k * units * (N * P)) (k * N * P * units + w * (N * P)) (r * units) (w * (N * P)) (omega arith)

  below : (r : ℕ) → pos 2 *ℤ beyond P N (sub_ℕ w (k * units)) (sub_ℕ r (k * N * P)) +ℤ pos (units * P) ≡ sub_ℕ (r * units * 2 + units * P) (w * (N * P) * 2)
  below r =
      ap (λ (z : ℤ). pos 2 *ℤ z +ℤ pos (units * P)) (gap r)
      ∙ ap (λ (z : ℤ). z +ℤ pos (units * P)) (*ℤ_comm (pos 2) (sub_ℕ (r * units) (w * (N * P))) ∙ sub_mul (r * units) (w * (N * P)) 2 (lit< tt))
      ∙ sub_add (r * units * 2) (w * (N * P) * 2) (units * P)

  lifted_nearby : Nearby P N (sub_ℕ w (k * units)) c (sub_ℕ (J * P + c) (k * N * P))
  unfolding J
  lifted_nearby =
      let r : ℕ = J * P + c in
      let l = near_low (w * (N * P) - c * units) {d = units * P} (omega arith) in
      let h = near_high (w * (N * P) - c * units) {d = units * P} (omega arith) in
      record {
        counted = sub_modulo r (k * N) P p ∙ digits_mod J small;
        within = rw (gap r, abs_is (r * units) (w * (N * P))) (omega arith);
        upper = λ e.
            let z : (r * units * 2 + units * P - w * (N * P) * 2) + (w * (N * P) * 2 - (r * units * 2 + units * P)) ≡ 0 =
            sym (abs_is (r * units * 2 + units * P) (w * (N * P) * 2)) ∙ ap nat_abs (sym (below r) ∙ e) in
            omega arith;
      }

  lifted_only : (r : ℕ) → Nearby P N (sub_ℕ w (k * units)) c (sub_ℕ r (k * N * P)) → sub_ℕ r (k * N * P) ≡ sub_ℕ (J * P + c) (k * N * P)
  unfolding J
  lifted_only r n =
      let m : r % P ≡ c = sym (sub_modulo r (k * N) P p) ∙ n.counted in
      let b : 2 * ((r * units - w * (N * P)) + (w * (N * P) - r * units)) ≤ units * P = rw (gap r, abs_is (r * units) (w * (N * P))) at n.within in
      let u : r * units * 2 + units * P ≡ w * (N * P) * 2 → ⊥ =
      (λ e. n.upper (below r ∙ sub_pos (r * units * 2 + units * P) (w * (N * P) * 2) (omega arith) ∙ ap pos {x = r * units * 2 + units * P - w * (N * P) * 2} {y = 0} (omega arith))) in
      let s : r / P * P + r % P ≡ r = div-add-mod' r P in
      let j : J ≡ r / P = near_only (w * (N * P) - c * units) (units * P) (r / P) (omega arith) (omega arith) (omega arith) in
      ap (λ (y : ℕ). sub_ℕ y (k * N * P)) {x = r} {y = J * P + c} (omega (arith, ap (λ (y : ℕ). y * P) j))

module _ (P N : ℕ) (reference : ℤ) (c : ℕ) (p : 0 < P) (some : 0 < N) (small : c < P) where
  zoned : 0 < N * P
  zoned = omega (arith, mul-le-mul some p)

  enough : (k : ℕ) → nat_abs reference < k → c * units ≤ lifted reference (k * units) * (N * P)
  enough k h =
      let g : units * (N * P) ≤ lifted reference (k * units) * (N * P) = mul-le-mul_right (N * P) (lifted_least reference (k * units) units (omega arith)) in
      let f : 1 * c ≤ N * P = mul-le-mul some (omega arith) in
      omega arith

  -- it has the count and lies within half a zone
  pub near_has : Nearby P N reference c (near P N reference c)
  near_has =
      let k = suc (nat_abs reference) in
      subst (λ (z : ℤ). Nearby P N z c (near P N z c)) (lifted_is reference (k * units) (omega arith))
      (rw (found P N (lifted reference (k * units)) k c p zoned small (enough k (omega arith)))
      (lifted_nearby P N (lifted reference (k * units)) k c p zoned small (enough k (omega arith))))

  -- and no other does
  pub near_alone : (z : ℤ) → Nearby P N reference c z → z ≡ near P N reference c
  near_alone z n =
      let k = suc (nat_abs reference + nat_abs z) in
      let w = lifted reference (k * units) in
      let r = lifted z (k * N * P) in
      let e : sub_ℕ w (k * units) ≡ reference = lifted_is reference (k * units) (omega arith) in
      let f : sub_ℕ r (k * N * P) ≡ z = lifted_is z (k * N * P) (omega (arith, mul-le-mul_left k zoned)) in
      sym f
      ∙ lifted_only P N w k c p zoned small (enough k (omega arith)) r (rw (e, f) n)
      ∙ sym (found P N w k c p zoned small (enough k (omega arith)))
      ∙ ap (λ (y : ℤ). near P N y c) e
