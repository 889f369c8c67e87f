-- The way back: the figure times 2^32 is the whole number 360 * |n|, with n's sign, and its whole part over 360 is |n|.
-- Assumes nothing.
use Rattle.std.proofs.Common.{◌≡◌, ℕ, ◌+◌, ◌*◌, ◌/◌, ◌<◌, ◌≤◌, Bool, true, false, not, ℤ, pos, nat_abs, sym, ap, ◌∙◌, subst, true≢false, mul-lt-mul_of_pos_right, mul-pos, mul-div_cancel, arith, lit<, le→leb, le-ltb, lt-ltb}
use mathlib.Core.Bool.{false≢true}
use lib.Ieee.{Float, nan, inf, fin, binary64, up, down, mul, neg, lt, of_int, to_unsigned, in_float}
use lib.Ieee.Exact.{HasValue}
use lib.Ieee.Fits.{down_pos, round-fits, neg-fits}
use lib.Ieee.Back.{round_whole, whole_unique, unsigned_back}
use lib.Ieee.Scale.{round_same}
use Rattle.degrees.specs.Value.{under, degrees_of}
use Rattle.degrees.specs.Code.{whole_of}
use Rattle.degrees.proofs.Exact.{exactly}
use Rattle.degrees.proofs.Steps.{mul_by}

room : (a : ℕ) → a ≤ 2147483648 → a * 360 ≤ 9007199254740992
room a h = omega arith

whole_val : (s : Bool) (a : ℕ) → a ≤ 2147483648 → HasValue (whole_of s a) s (a * 360) 1
whole_val s a h = round_whole binary64 s (a * 360) (room a h)

-- times 2^32
cross : (a : ℕ) → a * 4294967296 * 1 ≡ a * 4294967296
cross a = omega arith

pub times_turn : (n : ℤ) → nat_abs n ≤ 2147483648 → mul binary64 (degrees_of n) (fin false 1 (pos 32)) ≡ whole_of (under n) (nat_abs n)
times_turn n h =
    let a : ℕ = nat_abs n * 360 in
    mul_by (degrees_of n) (under n) a 4294967296 1 32 (lit< tt) (exactly n h)
    ∙ round_same binary64 (under n) (a * 4294967296) 4294967296 a 1 (lit< tt) (lit< tt) (cross a)

-- the sign taken off
neg_val : (x : Float) (a c : ℕ) → HasValue x true a c → HasValue (neg x) false a c
unfolding neg
neg_val nan a c v = v
neg_val (inf t) a c v = v
neg_val (fin t m e) a c v = (ap not v.0, v.1)

pub neg_whole : (a : ℕ) → a ≤ 2147483648 → neg (whole_of true a) ≡ whole_of false a
neg_whole a h =
    whole_unique binary64 (neg (whole_of true a)) (whole_of false a) false (a * 360)
    (neg-fits binary64 (whole_of true a) (round-fits binary64 true (a * 360) 1)) (round-fits binary64 false (a * 360) 1)
    (neg_val (whole_of true a) (a * 360) 1 (whole_val true a h)) (whole_val false a h)

-- where it lies
above_val : (y : Float) (a : ℕ) → HasValue y false a 1 → lt (fin true 1 (pos 0)) y ≡ true
unfolding lt
above_val nan a v = absurd v
above_val (inf t) a v = absurd v
above_val (fin true m e) a v = absurd (true≢false v.0)
above_val (fin false m e) a v = lt-ltb 0 (1 * down e + m * up e * 1) (omega (arith, down_pos e))

below_val : (y : Float) (a : ℕ) → a < 18446744073709551616 → HasValue y false a 1 → lt y (fin false 1 (pos 64)) ≡ true
unfolding lt
below_val nan a h v = absurd v
below_val (inf t) a h v = absurd v
below_val (fin true m e) a h v = absurd (true≢false v.0)
below_val (fin false m e) a h v =
    lt-ltb (m * up e * 1) (18446744073709551616 * down e)
    (subst (λ (y : ℕ). y < 18446744073709551616 * down e) (sym v.1) (times_lt a (down e) h (down_pos e)))
  where
    times_lt : (b w : ℕ) → b < 18446744073709551616 → 0 < w → b * w < 18446744073709551616 * w
    times_lt b w h p = mul-lt-mul_of_pos_right h p

not_below : (y : Float) (a : ℕ) → HasValue y false a 1 → lt y (fin false 0 (pos 0)) ≡ false
unfolding lt
not_below nan a v = absurd v
not_below (inf t) a v = absurd v
not_below (fin true m e) a v = absurd (true≢false v.0)
not_below (fin false m e) a v = le-ltb (m * up e * 1) (0 * down e) (omega arith)

is_below : (y : Float) (a : ℕ) → 0 < a → HasValue y true a 1 → lt y (fin false 0 (pos 0)) ≡ true
unfolding lt
is_below nan a h v = absurd v
is_below (inf t) a h v = absurd v
is_below (fin false m e) a h v = absurd (false≢true v.0)
is_below (fin true m e) a h v = lt-ltb 0 (m * up e * 1 + 0 * down e) (omega (arith, mul-pos h (down_pos e), v.1))

fit : (a : ℕ) → a ≤ 2147483648 → a * 360 < 18446744073709551616
fit a h = omega arith

pub above : (a : ℕ) → a ≤ 2147483648 → lt (fin true 1 (pos 0)) (whole_of false a) ≡ true
above a h = above_val (whole_of false a) (a * 360) (whole_val false a h)

pub below : (a : ℕ) → a ≤ 2147483648 → lt (whole_of false a) (fin false 1 (pos 64)) ≡ true
below a h = below_val (whole_of false a) (a * 360) (fit a h) (whole_val false a h)

pub side_pos : (a : ℕ) → a ≤ 2147483648 → lt (whole_of false a) (fin false 0 (pos 0)) ≡ false
side_pos a h = not_below (whole_of false a) (a * 360) (whole_val false a h)

pub side_neg : (a : ℕ) → 0 < a → a ≤ 2147483648 → lt (whole_of true a) (fin false 0 (pos 0)) ≡ true
side_neg a p h = is_below (whole_of true a) (a * 360) (omega arith) (whole_val true a h)

-- its whole part over 360
pub counted : (a : ℕ) → a ≤ 2147483648 → to_unsigned 64 (whole_of false a) / 360 ≡ a
unfolding of_int in_float
counted a h =
    ap (λ (y : ℕ). y / 360) (unsigned_back binary64 64 (a * 360) (le→leb (a * 360) 9007199254740992 (room a h)) (fit a h)).1
    ∙ mul-div_cancel a (lit< tt)
