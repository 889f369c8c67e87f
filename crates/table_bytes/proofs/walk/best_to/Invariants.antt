-- `table_bytes::walk::best_to` meets its contract: the best so far is the smallest of the places that the loop has passed.
use mathlib.Core.Path.{◌≡◌}
use Rattle.table_bytes.specs.Layout.{place_at}
use Rattle.table_bytes.specs.Walk.{smallest}
use Rattle.table_bytes.proofs.walk.best_to.Given as goal

abbrev pub invariant-loop-i : goal.invariant-loop-i
invariant-loop-i l = l.best ≡ smallest (place_at l.s l.n) l.clock l.above l.i
