-- `merge::lines::put_lines` meets its contract: the lines passed are in the buffer, and with the rest they are the whole text.
use Prim.Native.Nat.{ℕ, ◌+◌, ◌-◌, ◌≤◌}
use mathlib.Core.Path.{◌≡◌}
use mathlib.Core.List.{List, ◌++◌}
use lib.ListN.{length}
use Rattle.text.specs.Code.{Wrote}
use Rattle.form.specs.Scan.{lines_from}
use Rattle.merge.specs.Merged.{in_order, joined}
use Rattle.merge.proofs.lines.put_lines.Given as goal

abbrev pub invariant-loop-line : goal.invariant-loop-line
invariant-loop-line l =
    (l.i ≤ length l.a) × (l.j ≤ length l.b) × (length l.out ≡ length l.initial.out) × (l.at + (length l.a - l.i) + (length l.b - l.j) ≤ length l.out)
    × ((done : List ℕ) × (Wrote l.initial.out l.from done l.at l.out × (done ++ joined (in_order (lines_from l.a l.i) (lines_from l.b l.j)) ≡ joined (in_order (lines_from l.a l.first) (lines_from l.b l.second)))))

abbrev pub decreases-loop-line : goal.decreases-loop-line
decreases-loop-line l = (length l.a - l.i) + (length l.b - l.j)
