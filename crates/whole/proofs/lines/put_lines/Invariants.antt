-- `whole::lines::put_lines` meets its contract: the lines of the entries that the loop has passed stand behind the text.
use Prim.Native.Nat.{◌+◌, ◌*◌, ◌-◌, ◌≤◌}
use mathlib.Core.Path.{◌≡◌}
use lib.ListN.{length, take}
use Rattle.text.specs.Lines.{line_room}
use Rattle.report.specs.Listing.{texts}
use Rattle.whole.specs.Code.{rows_at, Added}
use Rattle.whole.proofs.lines.put_lines.Given as goal

abbrev pub invariant-loop-j : goal.invariant-loop-j
invariant-loop-j l =
    (l.j ≤ l.k) × (l.at + line_room * (l.k - l.j) ≤ length l.out) × (length l.out ≡ length l.initial.out) × Added (texts (rows_at l.all l.table l.n (take l.j l.order))) l.from l.at l.initial.out l.out

abbrev pub decreases-loop-j : goal.decreases-loop-j
decreases-loop-j l = l.k - l.j
