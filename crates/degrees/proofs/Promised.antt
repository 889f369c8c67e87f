-- What the contracts promise in the rules' terms: whatever meets that of `to_degrees` gives the doubles that are exactly the place, or 8; whatever meets that of
-- `from_degrees` gives the place that the doubles exactly are, or 15. A longitude of 32 bits is below 2^32.
-- Assumes nothing.
use Rattle.std.specs.Prelude.{Result}
use Rattle.std.proofs.Common.{◌^◌, ◌<◌, sym, subst}
use contract.Lifetimes.{Lfts}
use denote.Triple.Clauses.{AtExit}
use borrow.Fn.Kinds.{Dens, res_t, ended_of}
use Rattle.positions.specs.Said.{found_said}
use Rattle.degrees.specs.Said.{in_degrees_said, DegreesIs, BackIs}
use Rattle.degrees.proofs.Places.{told, back_told}
use Rattle.degrees.proofs.to_degrees.Kinds as to-degrees-kinds
use Rattle.degrees.proofs.to_degrees.Reads as to_degrees
use Rattle.degrees.proofs.from_degrees.Kinds as from-degrees-kinds
use Rattle.degrees.proofs.from_degrees.Reads as from-degrees
use Rattle.degrees.specs.declared.Degrees.{Degrees}
use Rattle.positions.specs.declared.Spot.{Spot}
use Rattle.refusals.specs.declared.Refusal.{Refusal}

pub to_degrees_promised : (κs : Lfts 0) (args : Dens κs to-degrees-kinds.ps) (x : (res_t to-degrees-kinds.r κs).Denot)
    (left : AtExit (ended_of 0 to-degrees-kinds.ps to-degrees-kinds.r) κs) → args.0.longitude < 2 ^ 32 → to_degrees.Post κs args x left
    → DegreesIs args.0 (in_degrees_said x)
to_degrees_promised κs args x left h p = subst (λ (r : Result Degrees Refusal). DegreesIs args.0 (in_degrees_said r)) (sym p) (told args.0 h)

pub from_degrees_promised : (κs : Lfts 0) (args : Dens κs from-degrees-kinds.ps) (x : (res_t from-degrees-kinds.r κs).Denot)
    (left : AtExit (ended_of 0 from-degrees-kinds.ps from-degrees-kinds.r) κs) → from-degrees.Post κs args x left
    → BackIs args.0 (found_said x)
from_degrees_promised κs args x left p = subst (λ (a : Result Spot Refusal). BackIs args.0 (found_said a)) (sym p) (back_told args.0)
