-- RULES 4: parity: the remainder of bytes, the seal that makes it 0, and one bit of bytes flipped.
use Rattle.std.specs.Prelude.{ℕ, zero, suc, ◌-◌, ◌/◌, ◌%◌, ◌^◌, List, [], ◌∷◌, ◌++◌, get_or, set}
use Rattle.std.specs.Int.Bits.{bit_xor}
use Rattle.parity.specs.Division.{remainder_from, bits_of}

-- RULES 4.1 and 4.5: the remainder of bytes: bit 1, the top bit of byte 0, is the highest power
unfoldable pub remainder : List ℕ → ℕ
remainder s = remainder_from 0 (bits_of s)

-- RULES 4.3: the number whose three bytes, set behind s, make the remainder 0
unfoldable pub seal : List ℕ → ℕ
seal s = remainder (s ++ 0 ∷ 0 ∷ 0 ∷ [])

-- RULES 4.6: bytes with bit k flipped: bit 1 is the top bit of byte 0. There is no bit 0, and none behind the last
unfoldable pub flipped : ℕ → List ℕ → List ℕ
flipped zero s = s
flipped (suc k) s = set s (k / 8) (bit_xor (get_or s (k / 8) 0) (2 ^ (7 - k % 8)))
