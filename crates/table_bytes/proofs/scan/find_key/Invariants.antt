-- `table_bytes::scan::find_key` meets its contract: no place that was skipped or that the loop has passed holds the key.
use mathlib.Core.Path.{◌≡◌}
use Rattle.table_bytes.specs.Layout.{place_at, holds}
use Rattle.table_bytes.specs.Scan.{lowest}
use Rattle.table_bytes.proofs.scan.find_key.Given as goal

abbrev pub invariant-loop-i : goal.invariant-loop-i
invariant-loop-i l = lowest (λ j. holds l.clock l.key (place_at l.s l.n j)) l.i ≡ l.i
