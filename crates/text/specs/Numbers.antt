-- RULES 12.4: numbers as text, in ASCII: the digits are 48 on, A to F 65 on, the sign is 45.
use Rattle.std.specs.Prelude.{ℕ, zero, suc, ◌+◌, ◌/◌, ◌%◌, cond, List, [], ◌∷◌, ◌++◌, ℤ, pos, nat_abs, ltb}
use Rattle.std.specs.Int.Signed.{lt_z}

-- a number in its fewest digits, of at most k
unfoldable pub decimal_in : ℕ → ℕ → List ℕ
decimal_in zero n = []
decimal_in (suc k) n = cond (ltb n 10) ((48 + n) ∷ []) (decimal_in k (n / 10) ++ ((48 + n % 10) ∷ []))

-- 20 digits hold every number of 64 bits
unfoldable pub decimal : ℕ → List ℕ
decimal n = decimal_in 20 n

-- a digit to the base 16, in upper case
abbrev pub hex_digit : ℕ → ℕ
hex_digit d = cond (ltb d 10) (48 + d) (55 + d)

-- the last k digits to the base 16
unfoldable pub hex : ℕ → ℕ → List ℕ
hex zero n = []
hex (suc k) n = hex k (n / 16) ++ (hex_digit (n % 16) ∷ [])

abbrev pub minus : List ℕ
minus = 45 ∷ []

-- a sign if it is below 0, and the digits of its size
unfoldable pub signed : ℤ → List ℕ
signed z = cond (lt_z z (pos 0)) (minus ++ decimal (nat_abs z)) (decimal (nat_abs z))
