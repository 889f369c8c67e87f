-- RULES 12.1: the walk of the keys: the rows of all keys that there are, one after the other; and what a caller prints who asks for the next key again and again, and for the line of each.
use Rattle.std.specs.Prelude.{ℕ, zero, suc, ◌+◌, ◌≡◌, Bool, List, [], ◌∷◌, ◌++◌, Option, Some, None, Result, Ok, Err}
use Rattle.refusals.specs.declared.Refusal.{Refusal}
use Rattle.text.specs.declared.Line.{Line}
use Rattle.text.specs.declared.Row.{Row}
use Rattle.text.specs.Lines.{text_in}
use Rattle.table.specs.Table.{next_above}
use Rattle.table.specs.View.{view}
use Rattle.report.specs.Listing.{row_for, as_list, line_in}

-- the rows of the keys below k, held or not, one key after the other
unfoldable pub rows_below : Bool → List ℕ → ℕ → List Row
rows_below all s zero = []
rows_below all s (suc k) = rows_below all s k ++ as_list (row_for all k (view s k))

-- 1 for a text, 0 for an empty one
unfoldable pub some_text : List ℕ → ℕ
some_text [] = 0
some_text (b ∷ bs) = 1

-- the text of the header and of a line, as `header_of` and `line_of` answer them; none has no bytes
abbrev pub header_printed : Result Line Refusal → List ℕ
header_printed (Ok l) = text_in l
header_printed (Err r) = []

abbrev pub line_printed : Result (Option Line) Refusal → List ℕ
line_printed (Ok (Some l)) = text_in l
line_printed (Ok None) = []
line_printed (Err r) = []

-- a walk of the table s from a key on, by the answers of `table::next`: how many of the lines have text, and their text, by the answers of `report::line_of`
pub data Walked (all : Bool) (s : List ℕ) : ℕ → ℕ → List ℕ → Type 0 where
  ended : {above : ℕ} → next_above s above ≡ Ok None → Walked all s above 0 []
  then : {above key n : ℕ} {text : List ℕ} → next_above s above ≡ Ok (Some key) → Walked all s key n text
      → Walked all s above (some_text (line_printed (line_in all s key)) + n) (line_printed (line_in all s key) ++ text)
