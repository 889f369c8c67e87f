-- `addercoil::spots::give_spot` meets its contract: by what the decoder answers.
use mathlib.Core.Path.{refl}
use Rattle.addercoil.specs.Spots.{spot_said}
use Rattle.entries.proofs.Ways.{given_as, given_number}
use Rattle.addercoil.proofs.spots.give_spot.Goals as goal

pub returns-in-Ok : goal.returns-in-Ok
returns-in-Ok c = given_as spot_said _ c.in-Ok.is c.give_at.ensures

pub returns-in-Err : goal.returns-in-Err
returns-in-Err c = given_number spot_said _ c.in-Err.is refl c.number.ensures
