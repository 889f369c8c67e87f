-- The two crossings between a latitude of either sign and its number, by the sign.
-- Assumes nothing.
use Prim.Native.Nat.{ℕ, suc, ◌+◌, ◌-◌, ◌%◌, ◌≤◌, ◌<◌, min}
use mathlib.Core.Path.{◌≡◌, ap, ◌∙◌}
use mathlib.Core.Bool.{true}
use mathlib.Core.Logic.{⊎_elim}
use native.Mathlib.Nat.{min-le_right, min-eq_left}
use native.Mathlib.Omega.{arith}
use lib.IntN.{ℤ, pos, negsuc, sub_ℕ}
use lib.Signed.{mag}
use borrow.Author.Tests.{le-leb, leb-true}
use Rattle.signs.specs.Raised.{raised as turn_up}
use Rattle.positions.specs.Positions.{pole_to_pole}
use Rattle.positions.proofs.Shift.{sub_pos, sub_neg, order}
use Rattle.place.specs.Place.{above_pole, lowered}

pub above_pole_is : (z : ℤ) → mag z < 2147483648 → turn_up z + 1073741824 ≡ above_pole z
unfolding above_pole
above_pole_is (pos a) h = omega arith
above_pole_is (negsuc a) h = omega arith

pub lower_small : (n : ℕ) → n ≤ 2147483648 → mag (sub_ℕ n 1073741824) < 2147483648
lower_small n h =
    ⊎_elim
    (λ (p : 1073741824 ≤ n). rw (sub_pos n 1073741824 p) (omega arith))
    (λ (p : n < 1073741824). rw (sub_neg n 1073741824 p) (omega arith))
    (order n 1073741824)

pole_to_pole_lem : (n : ℕ) → n ≤ 2147483648 → pole_to_pole (sub_ℕ n 1073741824) ≡ true
pole_to_pole_lem n h =
    ⊎_elim
    (λ (p : 1073741824 ≤ n). rw (sub_pos n 1073741824 p) (le-leb (n - 1073741824) 1073741824 (omega arith)))
    (λ (p : n < 1073741824). rw (sub_neg n 1073741824 p) (le-leb (suc (1073741824 - suc n)) 1073741824 (omega arith)))
    (order n 1073741824)

-- what is read is from pole to pole
pub lowered_fits : (n : ℕ) → pole_to_pole (lowered n) ≡ true
unfolding lowered
lowered_fits n = pole_to_pole_lem (min n 2147483648) (min-le_right n 2147483648)

-- a latitude from pole to pole: its number is in range, and reads as the latitude
pub above_pole_small : (z : ℤ) → pole_to_pole z ≡ true → above_pole z % 4294967296 ≤ 2147483648
unfolding above_pole
above_pole_small (pos a) e = omega (arith, leb-true a 1073741824 e)
above_pole_small (negsuc a) e = omega (arith, leb-true (suc a) 1073741824 e)

down : (z : ℤ) → pole_to_pole z ≡ true → sub_ℕ (above_pole z % 4294967296) 1073741824 ≡ z
unfolding above_pole
down (pos a) e =
    let h : a ≤ 1073741824 = leb-true a 1073741824 e in
    sub_pos ((a + 5368709120) % 4294967296) 1073741824 (omega arith)
    ∙ ap pos {x = (a + 5368709120) % 4294967296 - 1073741824} {y = a} (omega arith)
down (negsuc a) e =
    let h : suc a ≤ 1073741824 = leb-true (suc a) 1073741824 e in
    sub_neg ((5368709120 - suc a) % 4294967296) 1073741824 (omega arith)
    ∙ ap negsuc {x = 1073741824 - suc ((5368709120 - suc a) % 4294967296)} {y = a} (omega arith)

pub lowered_above : (z : ℤ) → pole_to_pole z ≡ true → lowered (above_pole z % 4294967296) ≡ z
unfolding lowered
lowered_above z e = ap (λ (n : ℕ). sub_ℕ n 1073741824) (min-eq_left (above_pole_small z e)) ∙ down z e
