-- `table_bytes::walk::smallest_above` meets its contract: the best so far is the smallest of the places that the loop has passed, and 8 keys that are no better leave it as it is.
use Prim.Native.Nat.{◌-◌, ◌≤◌}
use mathlib.Core.Path.{◌≡◌}
use Rattle.table_bytes.specs.Layout.{place_at}
use Rattle.table_bytes.specs.Walk.{smallest}
use Rattle.table_bytes.proofs.walk.smallest_above.Given as goal

abbrev pub invariant-loop-i : goal.invariant-loop-i
invariant-loop-i l = (l.i ≤ l.n) × (l.best ≡ smallest (place_at l.s l.n) l.clock l.above l.i)

abbrev pub decreases-loop-i : goal.decreases-loop-i
decreases-loop-i l = l.n - l.i
