-- RULES 4.4: strings of bits: what the laws of the remainder are said of.
use Rattle.std.specs.Prelude.{ℕ, ◌<◌, List, [], ◌∷◌, replicate, length}
use Rattle.fields.specs.Packing.{pack}

-- each is 0 or 1
abbrev pub Bits : List ℕ → Type 0
Bits [] = Unit
Bits (b ∷ bs) = (b < 2) × Bits bs

-- so many zeros
abbrev pub zeros : ℕ → List ℕ
zeros n = replicate n 0

unfoldable pub ones : List ℕ → List ℕ
ones bs = replicate (length bs) 1

unfoldable pub bit_value : List ℕ → ℕ
bit_value bs = pack (ones bs) bs
