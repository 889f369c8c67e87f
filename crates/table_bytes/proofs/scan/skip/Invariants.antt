-- `table_bytes::scan::skip` meets its contract: no key that the loop has passed is the key.
use Prim.Native.Nat.{◌-◌, ◌≤◌}
use Rattle.table_bytes.specs.Code.{NoneBelow}
use Rattle.table_bytes.proofs.scan.skip.Given as goal

abbrev pub invariant-loop-i : goal.invariant-loop-i
invariant-loop-i l = (l.i ≤ l.n) × NoneBelow l.s l.key l.i

abbrev pub decreases-loop-i : goal.decreases-loop-i
decreases-loop-i l = l.n - l.i
