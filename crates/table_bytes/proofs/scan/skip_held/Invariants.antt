-- `table_bytes::scan::skip_held` meets its contract: each place that the loop has passed is held, and it ends at its own two tests.
use Prim.Native.Nat.{◌-◌, ◌≤◌}
use Rattle.table_bytes.specs.Layout.{place_at}
use Rattle.table_bytes.proofs.Scanned.{HeldBelow}
use Rattle.table_bytes.proofs.scan.skip_held.Given as goal

abbrev pub invariant-loop-i : goal.invariant-loop-i
invariant-loop-i l = (l.i ≤ l.n) × HeldBelow (place_at l.s l.n) l.clock l.i

abbrev pub decreases-loop-i : goal.decreases-loop-i
decreases-loop-i l = l.n - l.i
