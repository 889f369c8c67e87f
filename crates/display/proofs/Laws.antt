-- Every line ends in a zero: the buffer has one byte more than the longest line.
-- Assumes nothing.
use Rattle.std.specs.Prelude.{Option, Some, None}
use Prim.Native.Nat.{ℕ, ◌≤◌}
use mathlib.Core.Path.{◌≡◌, ◌∙◌}
use mathlib.Core.Bool.{Bool}
use mathlib.Core.List.{List, []}
use native.Mathlib.Omega.{arith}
use lib.ListN.{length, get_or, get_or-eq_default}
use Rattle.entries.specs.Arrays.{filled}
use Rattle.entries.proofs.Filling.{filled_at}
use Rattle.track.specs.declared.Track.{Track}
use Rattle.text.specs.declared.Row.{Row}
use Rattle.text.specs.Lines.{row_text, line_room}
use Rattle.text.proofs.Fits.{header_most, row_most}
use Rattle.table_bytes.specs.Layout.{clock_of}
use Rattle.report.specs.Listing.{row_for, rows_in, line_text, line_for, header_for}
use Rattle.display.specs.Lines.{line_buffer}

ends : (text : List ℕ) → length text ≤ line_room → get_or (filled line_buffer text) line_room 0 ≡ 0
ends text h = filled_at line_buffer text line_room (omega arith) ∙ get_or-eq_default text 0 h

pub header_ends : (all : Bool) (s : List ℕ) (bad : ℕ) → get_or (filled line_buffer (header_for all s bad)) line_room 0 ≡ 0
unfolding header_for
header_ends all s bad = ends (header_for all s bad) (omega (arith, header_most (clock_of s) (length (rows_in all s)) bad))

row_ends : (v : Option Row) → get_or (filled line_buffer (line_text v)) line_room 0 ≡ 0
row_ends None = ends [] (omega arith)
row_ends (Some r) = ends (row_text r) (omega (arith, row_most r))

pub line_ends : (all : Bool) (key : ℕ) (v : Option Track) → get_or (filled line_buffer (line_for all key v)) line_room 0 ≡ 0
line_ends all key v = row_ends (row_for all key v)
