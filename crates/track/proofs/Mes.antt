-- A body that fits steps a track as its ME does: the ME has 56 bits, and is read back as the body.
-- Assumes nothing.
use Rattle.std.specs.Prelude.{Result, Ok}
use Prim.Native.Nat.{ℕ, ◌^◌, ◌<◌}
use mathlib.Core.Path.{◌≡◌, refl, sym, ap, subst, ◌∙◌}
use mathlib.Core.Bool.{Bool, true}
use native.Mathlib.Nat.{mod-eq_of_lt}
use Rattle.layouts.specs.declared.bodies.Body.{Body}
use Rattle.layouts.specs.Bodies.{taken_by, body_coarse, body_me, body_fits}
use Rattle.layouts.proofs.BothWays.{read_back, me_lt}
use Rattle.messages.specs.declared.Message.{Message}
use Rattle.whereabouts.specs.declared.Site.{Site}
use Rattle.track.specs.declared.Track.{Track}
use Rattle.track.specs.Track.{step_body, step_taken, step_me, stepped}
use Rattle.refusals.specs.declared.Refusal.{Refusal}

module _ (t : Track) (site : Site) (time : ℕ) where
  -- an ME that says a body which fits
  pub stepped_as : (coarse : Bool) (me : ℕ) (b : Body) → taken_by coarse me ≡ Ok b → body_fits b ≡ true → body_me b ≡ me
      → step_me t coarse me site time ≡ step_body t b (body_me b) site time
  stepped_as coarse me b r f e =
      let short : me < 2 ^ 56 = subst (λ (n : ℕ). n < 2 ^ 56) e (me_lt b f) in
      ap (λ (n : ℕ). step_taken t (taken_by coarse n) n site time) (mod-eq_of_lt short)
      ∙ ap (λ (x : Result Body Refusal). step_taken t x me site time) r
      ∙ ap (λ (n : ℕ). step_body t b n site time) (sym e)

  pub stepped_me : (b : Body) → body_fits b ≡ true → step_me t (body_coarse b) (body_me b) site time ≡ step_body t b (body_me b) site time
  stepped_me b f = stepped_as (body_coarse b) (body_me b) b (read_back b f) f refl

  -- so a message whose fields fit does what its ME does
  pub stepped_by_me : (m : Message) (coarse : Bool) (me : ℕ) → taken_by coarse me ≡ Ok m.body → body_fits m.body ≡ true → body_me m.body ≡ me
      → stepped t (Ok m) site time ≡ record { answer = Ok m; track = step_me t coarse me site time }
  stepped_by_me m coarse me r f e = rw f (ap (λ (x : Track). record { answer = Ok m; track = x }) (sym (stepped_as coarse me m.body r f e)))
