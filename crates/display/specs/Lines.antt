-- RULES 12.8 and 20.6: the listing's lines for another language: a buffer holds the text, then zeros.
use Rattle.std.specs.Prelude.{ℕ, ◌+◌, Bool, cond, not, List, eqb, ltb, length}
use Rattle.refusals.specs.Said.{Said, number, gives}
use Rattle.memory.specs.Offsets.{whole_places}
use Rattle.table.specs.View.{view}
use Rattle.text.specs.Lines.{line_room}
use Rattle.report.specs.Listing.{header_for, line_for}

-- one byte more than a line has room for, so that it always ends in a zero
abbrev pub line_buffer : ℕ
line_buffer = line_room + 1

-- all tracks are asked for by 1, those with a position by 0
abbrev pub chosen : ℕ → Bool
chosen all = eqb all 1

-- 7, 8 for a choice that is neither 0 nor 1, or the text
abbrev pub lines_said : ℕ → List ℕ → List ℕ → Said (List ℕ)
lines_said all s text = cond (not (whole_places (length s))) (number 7) (cond (ltb 1 all) (number 8) (gives text))

-- the header of the listing
unfoldable pub header_said : ℕ → List ℕ → ℕ → Said (List ℕ)
header_said all s bad = lines_said all s (header_for (chosen all) s bad)

-- the line of a key; no text for one that is not held or not shown
unfoldable pub line_said : ℕ → List ℕ → ℕ → Said (List ℕ)
line_said all s key = lines_said all s (line_for (chosen all) key (view s key))
