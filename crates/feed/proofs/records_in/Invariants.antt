-- `feed::records_in` meets its contract: before each turn the records of the first k blocks have been counted.
use Prim.Native.Nat.{◌*◌, ◌≤◌}
use mathlib.Core.Path.{◌≡◌}
use Rattle.feed.specs.Feed.{records_in}
use Rattle.feed.proofs.records_in.Given as goal

abbrev pub invariant-loop-k : goal.invariant-loop-k
invariant-loop-k l = (l.records ≤ 23 * l.k) × (l.records ≡ records_in l.capture l.k)
