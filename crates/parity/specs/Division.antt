-- RULES 4.1 and 4.4: division of a polynomial over bits by x^24 plus the terms of 0xFFF409. A polynomial is written as a number: bit n is the term x^n.
use Rattle.std.specs.Prelude.{ℕ, ◌+◌, ◌-◌, ◌*◌, ◌^◌, List, [], ◌∷◌, ◌++◌, cond, ltb}
use Rattle.std.specs.Int.Bits.{bit_xor}
use Rattle.fields.specs.Packing.{unpack}

-- what a polynomial below x^25 leaves: itself below x^24; else its term x^24 becomes the terms of 0xFFF409
unfoldable pub reduce : ℕ → ℕ
reduce x = cond (ltb x (2 ^ 24)) x (bit_xor (x - 2 ^ 24) 0xFFF409)

-- the long division, a bit at a time: what is left of bits, the highest power first, that follow those which left r
unfoldable pub remainder_from : ℕ → List ℕ → ℕ
remainder_from r [] = r
remainder_from r (b ∷ bs) = remainder_from (reduce (2 * r + b)) bs

-- the bits of bytes, the top bit of each first
abbrev pub bits_of : List ℕ → List ℕ
bits_of [] = []
bits_of (b ∷ bs) = unpack (1 ∷ 1 ∷ 1 ∷ 1 ∷ 1 ∷ 1 ∷ 1 ∷ 1 ∷ []) b ++ bits_of bs

-- one byte of the division from the top: it is added to the eight highest terms of what is left, and eight zero bits follow
unfoldable pub stepped : ℕ → ℕ → ℕ
stepped r b = remainder_from (bit_xor r (b * 2 ^ 16)) (bits_of (0 ∷ []))

-- the exclusive-or of two strings, an element at a time
abbrev pub xor_all : List ℕ → List ℕ → List ℕ
xor_all [] ys = []
xor_all (x ∷ xs) [] = []
xor_all (x ∷ xs) (y ∷ ys) = bit_xor x y ∷ xor_all xs ys
