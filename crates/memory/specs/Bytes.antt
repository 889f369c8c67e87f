-- RULES 9.14: numbers as bytes of a table, the lowest byte first, so that a key compares as it lies in memory.
use Rattle.std.specs.Prelude.{ℕ, zero, suc, ◌+◌, ◌*◌, ◌/◌, ◌%◌, List, [], ◌∷◌, get_or}
use Rattle.std.proofs.lemmas.List.Edits.{sets}

-- the number of k bytes at an offset
unfoldable pub number_at : ℕ → List ℕ → ℕ → ℕ
number_at zero s a = 0
number_at (suc k) s a = get_or s a 0 + number_at k s (suc a) * 256

-- the k low bytes of a number
unfoldable pub low_bytes : ℕ → ℕ → List ℕ
low_bytes zero n = []
low_bytes (suc k) n = n % 256 ∷ low_bytes k (n / 256)

-- the list with other bytes from an offset on
unfoldable pub put : List ℕ → ℕ → List ℕ → List ℕ
put s at vs = sets s at vs
