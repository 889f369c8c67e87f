-- `audit::replays::addercoil_replay` meets its contract: an array of a wrong length, or what is worked out without a site.
use mathlib.Core.Path.{ap, ◌∙◌}
use Rattle.whereabouts.specs.declared.Site.{Site}
use Rattle.entries.specs.Sent.{given}
use Rattle.audit.specs.Replays.{replay_said}
use Rattle.entries.proofs.Ways.{into_wrong, into_given}
use Rattle.audit.proofs.replays.addercoil_replay.Goals as goal

pub returns-then-out-ne-TRACK : goal.returns-then-out-ne-TRACK
returns-then-out-ne-TRACK c = into_wrong 72 _ _ c.if-out-ne-TRACK.true

pub returns : goal.returns
returns c =
    let a = c.args in
    into_given 72 a.out.now _ c.if-out-ne-TRACK.false (c.give_replay.ensures ∙ ap (λ (z : Site). given a.out.now (replay_said a.log.now a.kind a.address z)) c.no_site.ensures)
