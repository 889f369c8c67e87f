-- `replay::tell` meets its contract: the frame opens to a message, which is another's, or steps what is held or a new track, or starts none.
use mathlib.Core.Path.{sym, ap, ◌∙◌}
use mathlib.Core.Bool.{Bool}
use Rattle.messages.proofs.Acceptance.{frame_opens}
use Rattle.track.specs.Track.{step_me}
use Rattle.replay.specs.Code.{begun}
use Rattle.replay.proofs.Ways.{told_another, told_none, told_step}
use Rattle.replay.proofs.tell.Goals as goal

pub returns-then-frame_key-key : goal.returns-then-frame_key-key
returns-then-frame_key-key c =
    let a = c.args in
    told_another a.f (frame_opens a.f c.requires) a.key a.site a.own.clock a.own.track (λ e. c.if-frame_key-key.true (c.frame_key.ensures ∙ e))

pub returns-in_default : goal.returns-in_default
returns-in_default c =
    let a = c.args in
    told_none a.f (frame_opens a.f c.requires) a.key a.site a.own.clock a.own.track (sym c.frame_key.ensures ∙ c.if-frame_key-key.false)
    (sym c.in_default.is ∙ c.begun.ensures ∙ ap (λ (b : Bool). begun b a.own.track) c.frame_starts.ensures)

pub returns : goal.returns
returns c =
    let a = c.args in
    told_step a.f (frame_opens a.f c.requires) a.key a.site a.own.clock a.own.track c.in-Some.t (sym c.frame_key.ensures ∙ c.if-frame_key-key.false)
    (sym c.in-Some.is ∙ c.begun.ensures ∙ ap (λ (b : Bool). begun b a.own.track) c.frame_starts.ensures)
    (c.step_me.ensures ∙ ap (λ (b : Bool). step_me c.in-Some.t b a.f.me a.site a.own.clock) c.frame_coarse-coarse.ensures)
