-- Each definition over whole numbers as the code computes it: over naturals, one whole turn up.
-- The turn is a multiple of every divisor, so it comes out of a division whole and a remainder does not see it.
-- Assumes nothing.
use mathlib.Core.Path.{◌≡◌, refl, sym, ap, ◌∙◌}
use mathlib.Core.Bool.{true, false}
use Prim.Native.Nat.{ℕ, ◌+◌, ◌-◌, ◌*◌, ◌/◌, ◌%◌, ◌≤◌, ◌<◌}
use native.Mathlib.Nat.{mul-le-mul_left, mul-le-mul, mul-le-mul_right, le-div_iff_mul-le, div-lt_iff_lt-mul, le_of_suc-le-suc}
use native.Mathlib.Omega.{arith}
use lib.Arith.{mod-mul, digits_div, digits_mod}
use lib.IntN.{ℤ, pos, nat_abs, sub_ℕ, ◌+ℤ◌, ◌-ℤ◌, ◌*ℤ◌}
use borrow.Author.Tests.{le-leb, lt-leb}
use Rattle.positions.specs.Whole.{floor, modulo, nearest}
use Rattle.positions.specs.Code.{nearestℕ}
use Rattle.positions.specs.Positions.{units, whole, rounded, rounded_turn, inside, pair_zone, less360, near_zone, near}
use Rattle.positions.proofs.Shift.{sub_pos, sub_eq, sub_add, sub_less, pos_sub, sub_mul, sub_modulo, sub_nearest, abs_is}

-- a number k turns up, encoded
pub whole_up : (P N w k : ℕ) → 0 < N * P → whole P N (sub_ℕ w (k * units)) ≡ sub_ℕ (nearestℕ (w * (N * P)) units) (k * (N * P))
unfolding whole
whole_up P N w k p =
    ap (λ (z : ℤ). nearest z units) (sub_mul w (k * units) (N * P) p ∙ sub_eq (w * (N * P)) (k * units * (N * P)) (w * (N * P)) (k * (N * P) * units) (omega arith))
    ∙ sub_nearest (w * (N * P)) (k * (N * P)) units (omega arith)

-- so a latitude w - turn
pub whole_is : (P N w : ℕ) → 0 < N * P → whole P N (sub_ℕ w units) ≡ sub_ℕ (nearestℕ (w * (N * P)) units) (N * P)
whole_is P N w p =
    whole_up P N w 1 p ∙ ap (λ (m : ℕ). sub_ℕ (nearestℕ (w * (N * P)) units) m) {x = 1 * (N * P)} {y = N * P} (omega arith)

-- a longitude, encoded
pub whole_pos : (P N x : ℕ) → whole P N (pos x) ≡ pos (nearestℕ (x * (N * P)) units)
unfolding whole nearest floor nearestℕ
whole_pos P N x = refl

-- the bounds of an encoded latitude, where a quarter turn is a whole number of counts
module _ (q N w : ℕ) (lw : 3 * units ≤ 4 * w) (hw : 4 * w ≤ 5 * units) where
  pub whole_low : 3 * (N * (4 * q)) ≤ 4 * nearestℕ (w * (N * (4 * q))) units
  unfolding nearestℕ
  whole_low =
      let a : 3 * units * (N * q) ≤ 4 * w * (N * q) = mul-le-mul_right (N * q) lw in
      let h : 3 * (N * q) ≤ (2 * (w * (N * (4 * q))) + units) / (2 * units) = (le-div_iff_mul-le {k = 2 * units} (omega arith)).1 (omega arith) in
      omega arith

  pub whole_high : 4 * nearestℕ (w * (N * (4 * q))) units ≤ 5 * (N * (4 * q))
  unfolding nearestℕ
  whole_high =
      let a : 4 * w * (N * q) ≤ 5 * units * (N * q) = mul-le-mul_right (N * q) hw in
      let h : (2 * (w * (N * (4 * q))) + units) / (2 * units) < 5 * (N * q) + 1 = (div-lt_iff_lt-mul {k = 2 * units} (omega arith)).1 (omega arith) in
      omega arith

-- the zone number of a pair, n * z zones up
pub pair_zone_is : (P n z a b : ℕ) → 0 < P → 0 < z → b ≤ P → modulo (pair_zone P n a b) z ≡ nearestℕ (a * (n - 1) + n * z * P - b * n) P % z
unfolding pair_zone
pair_zone_is P n z a b p q h =
    let g : n * b ≤ n * P = mul-le-mul_left n h in
    let g' : n * P * 1 ≤ n * P * z = mul-le-mul_left (n * P) q in
    ap (λ (w : ℤ). modulo (nearest w P) z)
    (pos_sub (a * (n - 1)) (b * n) ∙ sub_eq (a * (n - 1)) (b * n) (a * (n - 1) + n * z * P - b * n) (n * z * P) (omega arith))
    ∙ ap (λ (w : ℤ). modulo w z) (sub_nearest (a * (n - 1) + n * z * P - b * n) (n * z) P p)
    ∙ sub_modulo (nearestℕ (a * (n - 1) + n * z * P - b * n) P) n z q

-- less 360 degrees from 270 up
pub less_high : (M v : ℕ) → 3 * M ≤ 4 * v → less360 M v ≡ sub_ℕ v M
unfolding less360
less_high M v h = rw (le-leb (3 * M) (4 * v) h) (pos_sub v M)

pub less_low : (M v : ℕ) → 4 * v < 3 * M → less360 M v ≡ sub_ℕ (v + M) M
unfolding less360
less_low M v h = rw (lt-leb (3 * M) (4 * v) h) (ap pos {x = v} {y = v + M - M} (omega arith) ∙ sym (sub_pos (v + M) M (omega arith)))

-- whether a latitude is from pole to pole
pub inside_yes : (r M : ℕ) → 3 * M ≤ 4 * r → 4 * r ≤ 5 * M → inside M (sub_ℕ r M) ≡ true
unfolding inside
inside_yes r M l h = le-leb (4 * nat_abs (sub_ℕ r M)) M (rw (abs_is r M) (omega arith))

pub inside_north : (r M : ℕ) → 5 * M < 4 * r → inside M (sub_ℕ r M) ≡ false
unfolding inside
inside_north r M h = lt-leb (4 * nat_abs (sub_ℕ r M)) M (rw (abs_is r M) (omega arith))

pub inside_south : (r M : ℕ) → 4 * r < 3 * M → inside M (sub_ℕ r M) ≡ false
unfolding inside
inside_south r M h = lt-leb (4 * nat_abs (sub_ℕ r M)) M (rw (abs_is r M) (omega arith))

-- a latitude in 2^-32 of 360 degrees
pub rounded_is : (r M : ℕ) → 0 < M → rounded M (sub_ℕ r M) ≡ sub_ℕ (nearestℕ (r * units) M) units
unfolding rounded
rounded_is r M p =
    ap (λ (w : ℤ). nearest w M) (sub_mul r M units (omega arith) ∙ sub_eq (r * units) (M * units) (r * units) (units * M) (omega arith))
    ∙ sub_nearest (r * units) units M p

pub rounded_low : (r M : ℕ) → 0 < M → 3 * M ≤ 4 * r → 3221225472 ≤ nearestℕ (r * units) M
unfolding nearestℕ
rounded_low r M p h = (le-div_iff_mul-le {k = 2 * M} {x = 3221225472} (omega arith)).1 (omega arith)

pub rounded_high : (r M : ℕ) → 0 < M → 4 * r ≤ 5 * M → nearestℕ (r * units) M ≤ 5368709120
unfolding nearestℕ
rounded_high r M p h = le_of_suc-le-suc ((div-lt_iff_lt-mul {k = 2 * M} {y = 5368709121} (omega arith)).1 (omega arith))

-- and a longitude
pub rounded_turn_lem : (M v : ℕ) → rounded_turn M v ≡ nearestℕ (v * units) M
unfolding rounded_turn rounded nearest floor nearestℕ
rounded_turn_lem M v = refl

-- the zone near a reference, of a number k turns up
pub near_zone_up : (P N w k c : ℕ) → 0 < P → 0 < N * P → c * units ≤ w * (N * P) →
    near_zone P N (sub_ℕ w (k * units)) c ≡ sub_ℕ (nearestℕ (w * (N * P) - c * units) (units * P)) (k * N)
unfolding near_zone
near_zone_up P N w k c p q h =
    ap (λ (z : ℤ). nearest (z -ℤ pos (c * units)) (units * P)) (sub_mul w (k * units) (N * P) q)
    ∙ ap (λ (z : ℤ). nearest z (units * P))
    (sub_less (w * (N * P)) (k * units * (N * P)) (c * units)
    ∙ sub_eq (w * (N * P)) (k * units * (N * P) + c * units) (w * (N * P) - c * units) (k * N * (units * P)) (omega arith))
    ∙ sub_nearest (w * (N * P) - c * units) (k * N) (units * P) (omega arith)

-- so of a latitude w - turn
pub near_zone_latitude : (P N w c : ℕ) → 0 < P → 0 < N * P → c * units ≤ w * (N * P) →
    near_zone P N (sub_ℕ w units) c ≡ sub_ℕ (nearestℕ (w * (N * P) - c * units) (units * P)) N
near_zone_latitude P N w c p q h =
    near_zone_up P N w 1 c p q h ∙ ap (λ (m : ℕ). sub_ℕ (nearestℕ (w * (N * P) - c * units) (units * P)) m) {x = 1 * N} {y = N} (omega arith)

-- and of a longitude w, which is w + turn, one turn up
pub near_zone_longitude : (P N w c : ℕ) → 0 < P → 0 < N → c ≤ P →
    near_zone P N (pos w) c ≡ sub_ℕ (nearestℕ (w * (N * P) + N * (units * P) - c * units) (units * P)) N
near_zone_longitude P N w c p q h =
    let g : c * units * 1 ≤ P * units * N = mul-le-mul (omega arith) q in
    ap (λ (z : ℤ). near_zone P N z c) (ap pos {x = w} {y = w + units - units} (omega arith) ∙ sym (sub_pos (w + units) units (omega arith)))
    ∙ near_zone_latitude P N (w + units) c p (omega (arith, mul-le-mul q p)) (omega arith)
    ∙ ap (λ (x : ℕ). sub_ℕ (nearestℕ (x - c * units) (units * P)) N) {x = (w + units) * (N * P)} {y = w * (N * P) + N * (units * P)} (omega arith)

pub near_zone_modulo : (P N w c : ℕ) → 0 < P → 0 < N → c ≤ P →
    modulo (near_zone P N (pos w) c) N ≡ nearestℕ (w * (N * P) + N * (units * P) - c * units) (units * P) % N
near_zone_modulo P N w c p q h =
    let J : ℕ = nearestℕ (w * (N * P) + N * (units * P) - c * units) (units * P) in
    ap (λ (z : ℤ). modulo z N) (near_zone_longitude P N w c p q h ∙ sub_eq J N J (1 * N) (omega arith)) ∙ sub_modulo J 1 N q

-- the position near a reference, from its zone
pub near_is : (P N m J c : ℕ) (reference : ℤ) → 0 < P → near_zone P N reference c ≡ sub_ℕ J m → near P N reference c ≡ sub_ℕ (J * P + c) (m * P)
unfolding near
near_is P N m J c reference p e =
    ap (λ (z : ℤ). z *ℤ pos P +ℤ pos c) e ∙ ap (λ (z : ℤ). z +ℤ pos c) (sub_mul J m P p) ∙ sub_add (J * P) (m * P) c

-- modulo 360 degrees
pub near_modulo : (P N J c : ℕ) (reference : ℤ) → 0 < P → 0 < N → c < P → near_zone P N reference c ≡ sub_ℕ J N →
    modulo (near P N reference c) (N * P) ≡ J % N * P + c
near_modulo P N J c reference p q h e =
    ap (λ (z : ℤ). modulo z (N * P)) (near_is P N N J c reference p e ∙ sub_eq (J * P + c) (N * P) (J * P + c) (1 * (N * P)) (omega arith))
    ∙ sub_modulo (J * P + c) 1 (N * P) (omega (arith, mul-le-mul q p))
    ∙ mod-mul (J * P + c) q p
    ∙ ap (λ (y : ℕ). y % N * P + (J * P + c) % P) (digits_div J h)
    ∙ ap (λ (y : ℕ). J % N * P + y) (digits_mod J h)

pub near_longitude : (P N w c : ℕ) → 0 < P → 0 < N → c < P → modulo (near P N (pos w) c) (N * P) ≡ modulo (near_zone P N (pos w) c) N * P + c
near_longitude P N w c p q h =
    near_modulo P N (nearestℕ (w * (N * P) + N * (units * P) - c * units) (units * P)) c (pos w) p q h (near_zone_longitude P N w c p q (omega arith))
    ∙ ap (λ (y : ℕ). y * P + c) (sym (near_zone_modulo P N w c p q (omega arith)))
