-- `table_bytes::scan::find_free` meets its contract: each place that was skipped or that the loop has passed is held.
use mathlib.Core.Bool.{not}
use mathlib.Core.Path.{◌≡◌}
use Rattle.table_bytes.specs.Layout.{place_at, is_held}
use Rattle.table_bytes.specs.Scan.{lowest}
use Rattle.table_bytes.proofs.scan.find_free.Given as goal

abbrev pub invariant-loop-i : goal.invariant-loop-i
invariant-loop-i l = lowest (λ j. not (is_held l.clock (place_at l.s l.n j))) l.i ≡ l.i
