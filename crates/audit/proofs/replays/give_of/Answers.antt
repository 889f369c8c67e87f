-- `audit::replays::give_of` meets its contract: the row of what the plain method answers.
use Rattle.std.specs.Prelude.{Option, Result}
use Prim.Native.Nat.{ℕ}
use mathlib.Core.Path.{ap₂, ◌∙◌}
use Rattle.track_rows.specs.Held.{looked_said}
use Rattle.entries.specs.Sent.{given}
use Rattle.audit.specs.Replays.{worked_out}
use Rattle.audit.proofs.replays.give_of.Goals as goal
use Rattle.refusals.specs.declared.Refusal.{Refusal}
use Rattle.track.specs.declared.Track.{Track}

pub returns : goal.returns
unfolding worked_out
returns c =
    let a = c.args in
    c.give_held.ensures
    ∙ ap₂ (λ (n : ℕ) (y : Result (Option Track) Refusal). given a.out.now (looked_said n y)) c.key_for.ensures c.replay-looked.ensures
