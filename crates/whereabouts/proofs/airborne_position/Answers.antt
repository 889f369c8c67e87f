-- `whereabouts::airborne_position` meets its contract: after 10 a message is read singly, as one without a partner is.
use Rattle.std.specs.Prelude.{Result, Err}
use Prim.Native.Nat.{ℕ}
use mathlib.Core.Path.{◌≡◌, refl, ap, ◌∙◌}
use mathlib.Core.Bool.{Bool, true, false, cond}
use Rattle.refusals.specs.declared.Refusal.TheVariants.{Zones}
use Rattle.positions.specs.declared.Counts.{Counts}
use Rattle.positions.specs.declared.Format.{Format}
use Rattle.positions.specs.declared.Size.{Size}
use Rattle.whereabouts.specs.declared.Position.{Position}
use Rattle.whereabouts.specs.Located.{is_partner, read_singly, after_pair, airborne_position}
use Rattle.whereabouts.proofs.airborne_position.Goals as goal
use Rattle.positions.specs.declared.Spot.{Spot}
use Rattle.refusals.specs.declared.Refusal.{Refusal}

-- by whether there is a partner
by-partner : (p : Position) (size : Size) (counts : Counts) (format : Format) (time : ℕ) (b : Bool) (found : Result Spot Refusal)
    → after_pair (cond b found (Err Zones)) p size counts format time ≡ cond b (after_pair found p size counts format time) (read_singly p size counts format time)
by-partner p size counts format time true found = refl
by-partner p size counts format time false found = refl

pub returns : goal.returns
unfolding airborne_position
returns c =
    let a = c.args in
    c.after_pair.ensures
    ∙ ap (λ (x : Result Spot Refusal). after_pair x a.p a.size a.counts a.format a.time) c.tried_with-found.ensures
    ∙ by-partner a.p a.size a.counts a.format a.time (is_partner a.partner a.size a.time) _
