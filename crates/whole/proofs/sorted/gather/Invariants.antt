-- `whole::sorted::gather` meets its contract: the entries of the places that the loop has passed stand at the front.
use Prim.Native.Nat.{◌-◌, ◌≤◌}
use mathlib.Core.Path.{◌≡◌}
use lib.ListN.{length}
use Rattle.order.specs.Sorted.{over}
use Rattle.whole.specs.Whole.{entries_of}
use Rattle.whole.proofs.sorted.gather.Given as goal

abbrev pub invariant-loop-i : goal.invariant-loop-i
invariant-loop-i l = (l.i ≤ l.n) × (l.k ≤ l.i) × (length l.order ≡ length l.initial.order) × (l.k ≡ length (entries_of l.table l.i)) × (l.order ≡ over (entries_of l.table l.i) l.initial.order)

abbrev pub decreases-loop-i : goal.decreases-loop-i
decreases-loop-i l = l.n - l.i
