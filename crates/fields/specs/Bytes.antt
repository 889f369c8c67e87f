-- RULES 2.1: bytes as one number, and a number as bytes: layouts whose widths are all 8.
use Rattle.std.specs.Prelude.{ℕ, ◌<◌, List, length, replicate, get_or}
use Rattle.fields.specs.Packing.{pack, unpack}

-- the number that bytes make, the first the highest
abbrev pub number : List ℕ → ℕ
number bs = pack (replicate (length bs) 8) bs

-- the k low bytes of a number, the highest first
abbrev pub bytes_of : ℕ → ℕ → List ℕ
bytes_of k n = unpack (replicate k 8) n

-- each element is a byte
abbrev pub Bytes : List ℕ → Type 0
Bytes s = (i : ℕ) → get_or s i 0 < 256
