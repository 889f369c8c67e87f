-- `whole::lines::count` meets its contract: of the entries that the loop has passed those that are shown are counted.
use Prim.Native.Nat.{◌-◌, ◌≤◌}
use mathlib.Core.Path.{◌≡◌}
use lib.ListN.{length, take}
use Rattle.whole.specs.Code.{rows_at}
use Rattle.whole.proofs.lines.count.Given as goal

abbrev pub invariant-loop-j : goal.invariant-loop-j
invariant-loop-j l = (l.j ≤ l.k) × (l.rows ≤ l.j) × (l.rows ≡ length (rows_at l.all l.table l.n (take l.j l.order)))

abbrev pub decreases-loop-j : goal.decreases-loop-j
decreases-loop-j l = l.k - l.j
