-- Laws of numbers as text: what the last digit is, and from that the last two, four and eight; and how many there are.
-- Assumes nothing.
use Prim.Native.Nat.{ℕ, zero, suc, ◌+◌, ◌*◌, ◌/◌, ◌%◌, ◌^◌, ◌<◌, ◌≤◌}
use mathlib.Core.Path.{◌≡◌, refl, sym, ap, ◌∙◌}
use mathlib.Core.Bool.{Bool, true, false, cond}
use mathlib.Core.List.{List, [], ◌∷◌, ◌++◌, append_assoc}
use native.Mathlib.Omega.{arith}
use borrow.Author.Tests.{lt-ltb, le-ltb, ltb-true, ltb-false}
use lib.Dec.{ltb}
use lib.IntN.{ℤ, pos, nat_abs}
use lib.Signed.{lt_z}
use lib.Pow.{pow-add}
use lib.ListN.{length, length-append}
use Rattle.text.specs.Code.{two, four, eight}
use Rattle.text.specs.Numbers.{decimal_in, decimal, hex, hex_digit, minus, signed}

pow_ten : (k : ℕ) → 10 ^ suc k ≡ 10 * 10 ^ k
pow_ten k = ap (λ (j : ℕ). 10 ^ j) (let e : suc k ≡ 1 + k = omega arith in e) ∙ pow-add 10 1 k

small : (k n : ℕ) → n < 10 → decimal_in (suc k) n ≡ (48 + n) ∷ []
unfolding decimal_in
small k n h = rw (lt-ltb n 10 h)

large : (k n : ℕ) → 10 ≤ n → decimal_in (suc k) n ≡ decimal_in k (n / 10) ++ ((48 + n % 10) ∷ [])
unfolding decimal_in
large k n h = rw (le-ltb n 10 h)

most : (k n : ℕ) → length (decimal_in k n) ≤ k
unfolding decimal_in
most zero n = omega arith
most (suc k) n = by (ltb n 10) (most k (n / 10))
  where
    by : (t : Bool) → length (decimal_in k (n / 10)) ≤ k → length (cond t ((48 + n) ∷ []) (decimal_in k (n / 10) ++ ((48 + n % 10) ∷ []))) ≤ suc k
    by true h = omega arith
    by false h = omega (arith, length-append (decimal_in k (n / 10)) ((48 + n % 10) ∷ []))

more_by : (k n : ℕ) (t : Bool) → ltb n 10 ≡ t → (decimal_in (suc k) (n / 10) ≡ decimal_in (suc (suc k)) (n / 10)) → decimal_in (suc (suc k)) n ≡ decimal_in (suc (suc (suc k))) n
more_by k n true e h = let l = ltb-true n 10 e in small (suc k) n l ∙ sym (small (suc (suc k)) n l)
more_by k n false e h = let l = ltb-false n 10 e in large (suc k) n l ∙ ap (λ (x : List ℕ). x ++ ((48 + n % 10) ∷ [])) h ∙ sym (large (suc (suc k)) n l)

-- a digit more to hold it changes nothing
more : (k n : ℕ) → n < 10 ^ suc k → decimal_in (suc k) n ≡ decimal_in (suc (suc k)) n
more zero n h = let l : n < 10 = h in small zero n l ∙ sym (small (suc zero) n l)
more (suc k) n h = more_by k n (ltb n 10) refl (more k (n / 10) (omega (arith, pow_ten (suc k))))

pub decimal_small : (n : ℕ) → n < 10 → decimal n ≡ (48 + n) ∷ []
unfolding decimal
decimal_small n h = small 19 n h

pub decimal_large : (n : ℕ) → 10 ≤ n → n < 2 ^ 64 → decimal n ≡ decimal (n / 10) ++ ((48 + n % 10) ∷ [])
unfolding decimal
decimal_large n h l = large 19 n h ∙ ap (λ (x : List ℕ). x ++ ((48 + n % 10) ∷ [])) (more 18 (n / 10) (omega arith))

pub decimal_most : (n : ℕ) → length (decimal n) ≤ 20
unfolding decimal
decimal_most n = most 20 n

pub decimal_two : (n : ℕ) → 10 ≤ n → n < 100 → decimal n ≡ two n
decimal_two n h l = decimal_large n h (omega arith) ∙ ap (λ (x : List ℕ). x ++ ((48 + n % 10) ∷ [])) (decimal_small (n / 10) (omega arith))

-- two digits more
pub decimal_hundred : (n : ℕ) → 100 ≤ n → n < 2 ^ 64 → decimal n ≡ decimal (n / 100) ++ two (n % 100)
decimal_hundred n h l =
    let a : n / 10 / 10 ≡ n / 100 = omega arith in
    let b : n / 10 % 10 ≡ n % 100 / 10 = omega arith in
    let c : n % 10 ≡ n % 100 % 10 = omega arith in
    decimal_large n (omega arith) l
    ∙ ap (λ (x : List ℕ). x ++ ((48 + n % 10) ∷ [])) (decimal_large (n / 10) (omega arith) (omega arith))
    ∙ append_assoc (decimal (n / 10 / 10)) ((48 + n / 10 % 10) ∷ []) ((48 + n % 10) ∷ [])
    ∙ cc

-- four
pub decimal_four : (n : ℕ) → 10 ^ 4 ≤ n → n < 2 ^ 64 → decimal n ≡ decimal (n / 10000) ++ four (n % 10000)
decimal_four n h l =
    let a : n / 100 / 100 ≡ n / 10000 = omega arith in
    let b : n / 100 % 100 ≡ n % 10000 / 100 = omega arith in
    let c : n % 100 ≡ n % 10000 % 100 = omega arith in
    decimal_hundred n (omega arith) l
    ∙ ap (λ (x : List ℕ). x ++ two (n % 100)) (decimal_hundred (n / 100) (omega arith) (omega arith))
    ∙ append_assoc (decimal (n / 100 / 100)) (two (n / 100 % 100)) (two (n % 100))
    ∙ cc

-- eight
pub decimal_eight : (n : ℕ) → 10 ^ 8 ≤ n → n < 2 ^ 64 → decimal n ≡ decimal (n / 100000000) ++ eight (n % 100000000)
decimal_eight n h l =
    let a : n / 10000 / 10000 ≡ n / 100000000 = omega arith in
    let b : n / 10000 % 10000 ≡ n % 100000000 / 10000 = omega arith in
    let c : n % 10000 ≡ n % 100000000 % 10000 = omega arith in
    decimal_four n (omega arith) l
    ∙ ap (λ (x : List ℕ). x ++ four (n % 10000)) (decimal_four (n / 10000) (omega arith) (omega arith))
    ∙ append_assoc (decimal (n / 10000 / 10000)) (four (n / 10000 % 10000)) (four (n % 10000))
    ∙ cc

-- a number below 100 has at most two digits
short_by : (n : ℕ) (t : Bool) → ltb n 10 ≡ t → n < 100 → length (decimal n) ≤ 2
short_by n true e h = omega (arith, ap length (decimal_small n (ltb-true n 10 e)))
short_by n false e h = omega (arith, ap length (decimal_two n (ltb-false n 10 e) h))

pub decimal_short : (n : ℕ) → n < 100 → length (decimal n) ≤ 2
decimal_short n h = short_by n (ltb n 10) refl h

pub hex_length : (k n : ℕ) → length (hex k n) ≡ k
unfolding hex
hex_length zero n = refl
hex_length (suc k) n = omega (arith, length-append (hex k (n / 16)) (hex_digit (n % 16) ∷ []), hex_length k (n / 16))

pub signed_below : (z : ℤ) (n : ℕ) → n ≡ nat_abs z → lt_z z (pos 0) ≡ true → minus ++ decimal n ≡ signed z
unfolding signed
signed_below z n e b = rw (e, b)

pub signed_above : (z : ℤ) (n : ℕ) → n ≡ nat_abs z → lt_z z (pos 0) ≡ false → decimal n ≡ signed z
unfolding signed
signed_above z n e b = rw (e, b)
