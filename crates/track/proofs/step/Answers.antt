-- `track::step` meets its contract: what the decoder and `me_of` answer chooses between the definition's cases.
use Rattle.std.specs.Prelude.{Ok}
use Prim.Native.Nat.{ℕ}
use mathlib.Core.Path.{sym, ap, ap₂, ◌∙◌}
use mathlib.Core.Bool.{Bool}
use Rattle.layouts.specs.Bodies.{body_me, body_fits}
use Rattle.layouts.proofs.BothWays.{if_written}
use Rattle.track.specs.declared.Track.{Track}
use Rattle.track.specs.Track.{step_me}
use Rattle.track.proofs.Mes.{stepped_me}
use Rattle.track.proofs.step.Goals as goal

pub returns : goal.returns
returns c =
    let a = c.args in
    let b = c.in-Ok.m.body in
    let g = if_written (body_fits b) (body_me b) c.in-Ok-me_of.me (sym c.me_of.ensures ∙ c.in-Ok-me_of.is) in
    rw (c.in-Ok.is, g.0)
    (ap (λ (x : Track). record { answer = Ok c.in-Ok.m; track = x })
    (c.step_me.ensures
    ∙ ap₂ (λ (k : Bool) (j : ℕ). step_me a.t k j a.site a.time) c.is_coarse.ensures (sym g.1)
    ∙ stepped_me a.t a.site a.time b g.0))
