-- `replay::hear_all` meets its contract: before each turn the records that came have been heard, and the rest of the log is left.
use Rattle.std.proofs.Common.{◌≡◌, ◌*◌, ◌≤◌, length}
use Rattle.std.specs.Prelude.{drop}
use Rattle.replay.specs.Replay.{unheard, own_at}
use Rattle.replay.proofs.hear_all.Given as goal

abbrev pub invariant-loop-record : goal.invariant-loop-record
invariant-loop-record l =
    (l.record-iterator.size ≡ 22)
    × (l.record-iterator.rest.now ≡ drop (22 * length l.yielded) l.log)
    × (22 * length l.yielded ≤ length l.log)
    × (l.own ≡ own_at l.site l.key unheard l.log (length l.yielded))
