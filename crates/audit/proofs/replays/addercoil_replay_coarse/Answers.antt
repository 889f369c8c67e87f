-- `audit::replays::addercoil_replay_coarse` meets its contract: an array of a wrong length, or what is worked out.
use Rattle.entries.proofs.Ways.{into_wrong, into_given}
use Rattle.audit.proofs.replays.addercoil_replay_coarse.Goals as goal

pub returns-then-out-ne-TRACK : goal.returns-then-out-ne-TRACK
returns-then-out-ne-TRACK c = into_wrong 72 _ _ c.if-out-ne-TRACK.true

pub returns : goal.returns
returns c =
    let a = c.args in
    into_given 72 a.out.now _ c.if-out-ne-TRACK.false c.give_coarse.ensures
