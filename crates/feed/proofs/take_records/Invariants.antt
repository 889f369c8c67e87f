-- `feed::take_records` meets its contract: before each turn the first i records have been received.
use mathlib.Core.Path.{◌≡◌}
use lib.ListN.{length}
use Rattle.feed.specs.Feed.{records_into}
use Rattle.feed.proofs.take_records.Given as goal

abbrev pub invariant-loop-i : goal.invariant-loop-i
invariant-loop-i l = (length l.table ≡ length l.initial.table) × (l.table ≡ records_into l.initial.table l.block l.i)
