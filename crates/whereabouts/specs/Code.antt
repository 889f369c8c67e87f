-- What private functions promise to each other: the partner is tried first. No public contract cites this file.
use Rattle.std.specs.Prelude.{ℕ, cond, Result, Err}
use Rattle.refusals.specs.declared.Refusal.TheVariants.{Zones}
use Rattle.positions.specs.declared.Counts.{Counts}
use Rattle.positions.specs.declared.Format.{Format}
use Rattle.positions.specs.declared.Size.{Size}
use Rattle.whereabouts.specs.declared.Saved.{Saved}
use Rattle.whereabouts.specs.Located.{paired_with, is_partner}
use Rattle.positions.specs.declared.Spot.{Spot}
use Rattle.refusals.specs.declared.Refusal.{Refusal}

-- the same in the code's order: what is found by the partner, and 10 where there is none
abbrev pub tried_with : Saved → Size → Counts → Format → ℕ → Result Spot Refusal
tried_with partner size counts format time = cond (is_partner partner size time) (paired_with partner.counts size counts format) (Err Zones)
