-- What private functions promise to each other: text in a buffer, and digits in pairs. No public contract cites this file.
use Rattle.std.specs.Prelude.{ℕ, ◌+◌, ◌/◌, ◌%◌, ◌≡◌, List, [], ◌∷◌, ◌++◌, length}
use Rattle.std.proofs.lemmas.List.Edits.{sets}

-- the buffer with a text from a place on; what goes past the end is cut off
unfoldable pub written : List ℕ → ℕ → List ℕ → List ℕ
written s at vs = sets s at vs

-- the buffer s has become l by the text vs at a place, and the next place is r
pub record Wrote (s : List ℕ) (at : ℕ) (vs : List ℕ) (r : ℕ) (l : List ℕ) : Type 0 where
  pub next : r ≡ at + length vs
  pub text : l ≡ written s at vs

-- a number in two digits, in four and in eight
abbrev pub two : ℕ → List ℕ
two n = (48 + n / 10) ∷ (48 + n % 10) ∷ []

abbrev pub four : ℕ → List ℕ
four n = two (n / 100) ++ two (n % 100)

abbrev pub eight : ℕ → List ℕ
eight n = four (n / 10000) ++ four (n % 10000)
