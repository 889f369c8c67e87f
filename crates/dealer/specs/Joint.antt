-- RULES 18.8 and 18.9: two listings as one for another language: a number, and the two arrays that the call was lent, as it leaves them.
use Rattle.std.specs.Prelude.{ℕ, ◌+◌, cond, not, ◌&&◌, List, [], ◌∷◌, eqb, length}
use Rattle.entries.specs.Arrays.{filled}
use Rattle.merge.specs.Merged.{mergeable, merged}

pub record Joint : Type 0 where
  pub number : ℕ
  pub out : List ℕ
  pub written : List ℕ

abbrev pub joint : ℕ → List ℕ → List ℕ → Joint
joint n out written = record { number = n; out = out; written = written }

-- 1 for an array of a wrong length, then 16 for texts that cannot be one listing; both leave the arrays. Else the text with zeros behind it, and its length
unfoldable pub merge_into : List ℕ → List ℕ → List ℕ → List ℕ → Joint
merge_into a b out written =
    cond (not (eqb (length out) (length a + length b) && eqb (length written) 1)) (joint 1 out written)
    (cond (not (mergeable a b)) (joint 16 out written)
    (joint 0 (filled (length out) (merged a b)) (length (merged a b) ∷ [])))
