-- `listing::read_all` meets its contract: before each turn whole blocks of one capture have been fed, and fewer bad ones counted than there were turns.
use Rattle.std.proofs.Common.{◌≡◌, ◌+◌, ◌-◌, ◌^◌, ◌≤◌, length}
use Rattle.listing.specs.Code.{WholeFed}
use Rattle.listing.proofs.read_all.Given as goal

abbrev pub invariant-loop-turns : goal.invariant-loop-turns
invariant-loop-turns g l = (length l.table ≡ length l.initial.table) × (length l.block ≡ 512) × (l.bad + l.turns ≤ 2 ^ 64 - 1) × WholeFed l.initial.table l.bad l.table

abbrev pub decreases-loop-turns : goal.decreases-loop-turns
decreases-loop-turns g l = l.turns
