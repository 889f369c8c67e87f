-- `merge::lines::rise` meets its contract: the lines passed rise, so all do if the rest does above the last of them.
use Prim.Native.Nat.{◌+◌, ◌-◌, ◌≤◌}
use mathlib.Core.Path.{◌≡◌}
use lib.ListN.{length}
use Rattle.form.specs.Scan.{lines_from}
use Rattle.merge.specs.Merged.{in_order, rising}
use Rattle.merge.proofs.lines.rise.Given as goal

abbrev pub invariant-loop-line : goal.invariant-loop-line
invariant-loop-line l =
    (l.i ≤ length l.a) × (l.j ≤ length l.b) × (rising 0 (in_order (lines_from l.a l.first) (lines_from l.b l.second)) ≡ rising l.last (in_order (lines_from l.a l.i) (lines_from l.b l.j)))

abbrev pub decreases-loop-line : goal.decreases-loop-line
decreases-loop-line l = (length l.a - l.i) + (length l.b - l.j)
