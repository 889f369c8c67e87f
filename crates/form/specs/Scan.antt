-- RULES 14.2: how the code walks a text: by the places where its pieces start.
use Rattle.std.specs.Prelude.{ℕ, ◌+◌, ◌-◌, ◌≤◌, ◌<◌, ◌≡◌, cond, List, [], ◌∷◌, ◌++◌, ◌⊎◌, leb, length, take, drop}
use Rattle.text.specs.Lines.{newline}
use Rattle.form.specs.Form.{pieces, lines_in}

-- from one place up to another
abbrev pub part : ℕ → ℕ → List ℕ → List ℕ
part from to s = take (to - from) (drop from s)

-- the pieces from a place on; past the end there are none
unfoldable pub pieces_from : ℕ → List ℕ → ℕ → List (List ℕ)
pieces_from sep s at = cond (leb at (length s)) (pieces sep (drop at s)) []

-- the lines from a place on
abbrev pub lines_from : List ℕ → ℕ → List (List ℕ)
lines_from s at = lines_in (pieces_from 10 s at)

-- a line from a place on ends before r
pub record LineTo (s : List ℕ) (at r : ℕ) : Type 0 where
  pub line : List ℕ
  pub low : at < r
  pub high : r ≤ length s
  pub first : lines_from s at ≡ line ∷ lines_from s r
  pub text : line ++ newline ≡ part at r s

-- the place after the first of some lines that start at a place; 0 where there is none
abbrev pub end_of : ℕ → List (List ℕ) → ℕ
end_of at [] = 0
end_of at (l ∷ ls) = at + length l + 1

-- a line there, or none, and r is 0
abbrev pub NextLine : List ℕ → ℕ → ℕ → Type 0
NextLine s at r = ((r ≡ 0) × (lines_from s at ≡ [])) ⊎ LineTo s at r
