-- `feed::take_blocks` meets its contract: before each turn the first k blocks have been taken, and their bad ones counted.
use mathlib.Core.Path.{◌≡◌}
use lib.ListN.{length}
use Rattle.feed.specs.Feed.{blocks_into, bad_in}
use Rattle.feed.proofs.take_blocks.Given as goal

abbrev pub invariant-loop-k : goal.invariant-loop-k
invariant-loop-k l = (length l.table ≡ length l.initial.table) × (l.bad ≡ bad_in l.capture l.k) × (l.table ≡ blocks_into l.initial.table l.capture l.k)
