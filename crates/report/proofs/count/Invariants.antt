-- `report::count` meets its contract: the places that the loop has passed and that have a row are counted.
use Prim.Native.Nat.{◌≤◌}
use mathlib.Core.Path.{◌≡◌}
use Rattle.report.specs.Code.{has_row}
use Rattle.report.proofs.Counted.{one, sum}
use Rattle.report.proofs.count.Given as goal

abbrev pub invariant-loop-i : goal.invariant-loop-i
invariant-loop-i l = (l.rows ≤ l.i) × (l.rows ≡ sum (λ j. one (has_row l.all l.clock l.table l.n j)) l.i)
