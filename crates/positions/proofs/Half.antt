-- The rounded place is within half a count of the true one on each axis, longitude around the circle.
-- A rounded quotient is within a half of it; lifted by whole turns, so that this is said of naturals.
-- Assumes nothing.
use mathlib.Core.Path.{◌≡◌, ap, ◌∙◌, subst}
use mathlib.Core.Logic.{⊎_elim}
use Prim.Native.Nat.{ℕ, suc, ◌+◌, ◌*◌, ◌≤◌, ◌<◌}
use native.Mathlib.Nat.{mul-le-mul_right, mod-eq_of_lt, mod_self, div-lt_iff_lt-mul, le_of_suc-le-suc}
use native.Mathlib.Omega.{arith}
use lib.Dec.{lit<}
use lib.IntN.{ℤ, pos, nat_abs, sub_ℕ, ◌-ℤ◌, ◌*ℤ◌}
use Rattle.positions.specs.Whole.{modulo}
use Rattle.positions.specs.Code.{nearestℕ}
use Rattle.positions.specs.Positions.{units, whole}
use Rattle.positions.specs.Rounded.{around}
use Rattle.positions.proofs.Shift.{order, sub_mul, sub_minus, abs_is, lifted, lifted_is}
use Rattle.positions.proofs.Rounding.{near_low, near_high}
use Rattle.positions.proofs.Naturals.{whole_up, whole_pos}

module _ (P N : ℕ) (p : 0 < N * P) where
  lifted_half : (w k : ℕ) → 2 * nat_abs (whole P N (sub_ℕ w (k * units)) *ℤ pos units -ℤ sub_ℕ w (k * units) *ℤ pos (N * P)) ≤ units
  lifted_half w k =
      let R : ℕ = nearestℕ (w * (N * P)) units in
      let e : whole P N (sub_ℕ w (k * units)) *ℤ pos units -ℤ sub_ℕ w (k * units) *ℤ pos (N * P) ≡ sub_ℕ (R * units + k * units * (N * P)) (k * (N * P) * units + w * (N * P)) =
      ap (λ (z : ℤ). z *ℤ pos units -ℤ sub_ℕ w (k * units) *ℤ pos (N * P)) (whole_up P N w k p)
      ∙ ap (λ (z : ℤ). z -ℤ sub_ℕ w (k * units) *ℤ pos (N * P)) (sub_mul R (k * (N * P)) units (lit< tt))
      ∙ ap (λ (z : ℤ). sub_ℕ (R * units) (k * (N * P) * units) -ℤ z) (sub_mul w (k * units) (N * P) p)
      ∙ sub_minus (R * units) (k * (N * P) * units) (w * (N * P)) (k * units * (N * P)) in
      rw (e, abs_is (R * units + k * units * (N * P)) (k * (N * P) * units + w * (N * P)))
      (omega (arith, near_low (w * (N * P)) {d = units} (lit< tt), near_high (w * (N * P)) {d = units} (lit< tt)))

  -- whole / (N * P) and x / units of 360 degrees: twice their difference, over units * (N * P), is at most a count, units
  pub half_a_count : (x : ℤ) → 2 * nat_abs (whole P N x *ℤ pos units -ℤ x *ℤ pos (N * P)) ≤ units
  half_a_count x =
      subst (λ (z : ℤ). 2 * nat_abs (whole P N z *ℤ pos units -ℤ z *ℤ pos (N * P)) ≤ units) (lifted_is x (nat_abs x * units) (omega arith))
      (lifted_half (lifted x (nat_abs x * units)) (nat_abs x))

  module _ (x : ℕ) (h : x < units) where
    most : nearestℕ (x * (N * P)) units ≤ N * P
    unfolding nearestℕ
    most =
        let g : suc x * (N * P) ≤ units * (N * P) = mul-le-mul_right (N * P) h in
        le_of_suc-le-suc ((div-lt_iff_lt-mul {k = 2 * units} {y = suc (N * P)} (lit< tt)).1 (omega arith))

    -- a longitude, around the circle
    pub half_around : 2 * around (N * P * units) (modulo (whole P N (pos x)) (N * P) * units) (x * (N * P)) ≤ units
    unfolding modulo
    half_around =
        let R : ℕ = nearestℕ (x * (N * P)) units in
        let g : suc x * (N * P) ≤ units * (N * P) = mul-le-mul_right (N * P) h in
        let l : 2 * (units * R) ≤ 2 * (x * (N * P)) + units = near_low (x * (N * P)) {d = units} (lit< tt) in
        let u : 2 * (x * (N * P)) + units < 2 * (units * R) + 2 * units = near_high (x * (N * P)) {d = units} (lit< tt) in
        rw (whole_pos P N x)
        (⊎_elim
        (λ (k : N * P ≤ R).
        let e : R ≡ N * P = omega (arith, most) in
        rw (e, mod_self (N * P)) (omega arith))
        (λ (k : R < N * P). rw (mod-eq_of_lt k) (omega arith))
        (order R (N * P)))
