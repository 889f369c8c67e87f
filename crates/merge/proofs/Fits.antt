-- The text always fits: the digits of a sum are at most those of both numbers, so that the header of both is not longer than their headers.
-- Assumes nothing.
use Prim.Native.Nat.{ℕ, zero, suc, ◌+◌, ◌-◌, ◌/◌, ◌%◌, ◌≤◌, ◌<◌}
use native.Mathlib.Omega.{arith}
use mathlib.Core.Path.{◌≡◌, refl, ap}
use mathlib.Core.Bool.{Bool, true, false, cond}
use mathlib.Core.List.{[], ◌∷◌, ◌++◌}
use borrow.Author.Tests.{ltb-true, ltb-false}
use lib.Dec.{ltb}
use lib.ListN.{length, length-append}
use Rattle.text.specs.Numbers.{decimal_in, decimal}
use Rattle.text.specs.Lines.{field, header_text}

abbrev digits : ℕ → ℕ → ℕ
digits k n = length (decimal_in k n)

-- one digit, or one more than a tenth has
data Digits (k n d : ℕ) : Type 0 where
  one_digit_lem : n < 10 → d ≡ 1 → Digits k n d
  more_digits : 10 ≤ n → d ≡ digits k (n / 10) + 1 → Digits k n d

digits_by : (k n : ℕ) (t : Bool) → ltb n 10 ≡ t → Digits k n (length (cond t ((48 + n) ∷ []) (decimal_in k (n / 10) ++ ((48 + n % 10) ∷ []))))
digits_by k n true e = one_digit_lem (ltb-true n 10 e) refl
digits_by k n false e = more_digits (ltb-false n 10 e) (length-append (decimal_in k (n / 10)) ((48 + n % 10) ∷ []))

digits_suc : (k n : ℕ) → Digits k n (digits (suc k) n)
unfolding decimal_in
digits_suc k n = digits_by k n (ltb n 10) refl

lead : {k n d : ℕ} → Digits k n d → 1 ≤ d
lead (one_digit_lem l e) = omega arith
lead (more_digits l e) = omega arith

small_by : {k n d : ℕ} → n < 10 → Digits k n d → d ≤ 1
small_by h (one_digit_lem l e) = omega arith
small_by h (more_digits l e) = omega arith

small : (k n : ℕ) → n < 10 → digits k n ≤ 1
unfolding decimal_in
small zero n h = omega arith
small (suc k) n h = small_by h (digits_suc k n)

-- a sum with what is carried, by the sums of tenths
carried_by : (k x y c : ℕ) {dx dy ds : ℕ} → c ≤ 1 → ((u v w : ℕ) → w ≤ 1 → digits k (u + v + w) ≤ digits k u + digits k v)
    → Digits k x dx → Digits k y dy → Digits k (x + y + c) ds → ds ≤ dx + dy
carried_by k x y c h f p q (one_digit_lem l e) = omega (arith, lead p)
carried_by k x y c h f (one_digit_lem lx ex) (one_digit_lem ly ey) (more_digits l e) = omega (arith, small k ((x + y + c) / 10) (omega arith))
carried_by k x y c h f (more_digits lx ex) (one_digit_lem ly ey) (more_digits l e) =
    let w = (x + y + c) / 10 - x / 10 in
    let s = ap (digits k) (let q : (x + y + c) / 10 ≡ x / 10 + 0 + w = omega arith in q) in
    omega (arith, s, f (x / 10) 0 w (omega arith), small k 0 (omega arith))
carried_by k x y c h f (one_digit_lem lx ex) (more_digits ly ey) (more_digits l e) =
    let w = (x + y + c) / 10 - y / 10 in
    let s = ap (digits k) (let q : (x + y + c) / 10 ≡ 0 + y / 10 + w = omega arith in q) in
    omega (arith, s, f 0 (y / 10) w (omega arith), small k 0 (omega arith))
carried_by k x y c h f (more_digits lx ex) (more_digits ly ey) (more_digits l e) =
    let w = (x + y + c) / 10 - x / 10 - y / 10 in
    let s = ap (digits k) (let q : (x + y + c) / 10 ≡ x / 10 + y / 10 + w = omega arith in q) in
    omega (arith, s, f (x / 10) (y / 10) w (omega arith))

carried : (k x y c : ℕ) → c ≤ 1 → digits k (x + y + c) ≤ digits k x + digits k y
unfolding decimal_in
carried zero x y c h = omega arith
carried (suc k) x y c h = carried_by k x y c h (λ u v w g. carried k u v w g) (digits_suc k x) (digits_suc k y) (digits_suc k (x + y + c))

sum_digits : (x y : ℕ) → length (decimal (x + y)) ≤ length (decimal x) + length (decimal y)
unfolding decimal
sum_digits x y = omega (arith, carried 20 x y 0 (omega arith), ap (digits 20) (let e : x + y + 0 ≡ x + y = omega arith in e))

header_length : (clock tracks bad : ℕ) → length (header_text clock tracks bad) ≡ 27 + (length (decimal clock) + length (decimal tracks) + length (decimal bad))
unfolding header_text field
header_length clock tracks bad = simp length-append (omega arith)

pub header_fits : (clock t u b d : ℕ) → length (header_text clock (t + u) (b + d)) ≤ length (header_text clock t b) + length (header_text clock u d)
header_fits clock t u b d = omega (arith, header_length clock (t + u) (b + d), header_length clock t b, header_length clock u d, sum_digits t u, sum_digits b d)
