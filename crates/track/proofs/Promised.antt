-- What the contract of `step` promises in the rules' terms: whatever meets it says the number or the values of the decoder's answer, or 8 for a message whose fields do not fit. By the answer, then by the test.
-- Assumes nothing.
use Rattle.std.specs.Prelude.{Result, Ok, Err}
use Prim.Native.Nat.{ℕ}
use mathlib.Core.Path.{◌≡◌, refl, ap, ◌∙◌}
use mathlib.Core.Bool.{Bool, true, false, cond, not}
use contract.Lifetimes.{Lfts}
use denote.Triple.Clauses.{AtExit}
use borrow.Fn.Kinds.{Dens, res_t, ended_of}
use Rattle.refusals.specs.declared.Refusal.TheVariants.{Field}
use Rattle.refusals.specs.Said.{number}
use Rattle.layouts.specs.Bodies.{body_fits}
use Rattle.messages.specs.Said.{said}
use Rattle.whereabouts.specs.declared.Site.{Site}
use Rattle.track.specs.declared.Track.{Track}
use Rattle.track.specs.Track.{stepped}
use Rattle.track.specs.Said.{stepped_said, step_table}
use Rattle.track.proofs.step.Kinds as step-kinds
use Rattle.track.proofs.step.Reads as step
use Rattle.messages.specs.declared.Message.{Message}
use Rattle.refusals.specs.declared.Refusal.{Refusal}

by_fit : (fits : Bool) (d : Result Message Refusal) (t u : Track) → stepped_said (cond fits (record { answer = d; track = t }) (record { answer = Err Field; track = u })) ≡ cond (not fits) (number 8) (said d)
by_fit true d t u = refl
by_fit false d t u = refl

step_says : (t : Track) (d : Result Message Refusal) (site : Site) (time : ℕ) → stepped_said (stepped t d site time) ≡ step_table d
step_says t (Err r) site time = refl
step_says t (Ok m) site time = by_fit (body_fits m.body) (Ok m) _ t

pub step_promised : (κs : Lfts 0) (args : Dens κs step-kinds.ps) (x : (res_t step-kinds.r κs).Denot)
    (left : AtExit (ended_of 0 step-kinds.ps step-kinds.r) κs) → step.Post κs args x left → stepped_said x ≡ step_table args.1.0
step_promised κs args x left p = ap stepped_said p ∙ step_says args.0 args.1.0 args.1.1.0 args.1.1.1.0
