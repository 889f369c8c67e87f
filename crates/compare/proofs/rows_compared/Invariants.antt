-- `compare::rows_compared` meets its contract: the lines passed agree with the rows passed, so the answer is that of the rest.
use Rattle.std.specs.Prelude.{Some}
use Prim.Native.Nat.{◌+◌, ◌-◌, ◌≤◌, ◌<◌}
use mathlib.Core.Path.{◌≡◌}
use mathlib.Core.Bool.{true}
use lib.ListN.{length}
use Rattle.keys.specs.Keys.{end_of_keys}
use Rattle.track.specs.declared.Track.{Track}
use Rattle.table.specs.View.{view}
use Rattle.report.specs.Listing.{rows_in}
use Rattle.form.specs.Scan.{lines_from}
use Rattle.compare.specs.Compared.{compared}
use Rattle.compare.specs.Code.{rows_left}
use Rattle.compare.proofs.rows_compared.Given as goal

abbrev pub invariant-loop-key : goal.invariant-loop-key
invariant-loop-key l =
    (l.key ≤ end_of_keys) × (l.n ≤ l.key + 2) × (l.at ≤ length l.theirs) × (l.key < end_of_keys → (t : Track) × (view l.table l.key ≡ Some t))
    × (compared 2 (lines_from l.theirs l.from) (rows_in true l.table) ≡ compared l.n (lines_from l.theirs l.at) (rows_left l.table l.key))

abbrev pub decreases-loop-key : goal.decreases-loop-key
decreases-loop-key l = end_of_keys - l.key
