-- `addercoil::spots::give_counts` meets its contract: by what the encoder answers.
use mathlib.Core.Path.{refl}
use Rattle.addercoil.specs.Spots.{counts_said}
use Rattle.entries.proofs.Ways.{given_as, given_number}
use Rattle.addercoil.proofs.spots.give_counts.Goals as goal

pub returns-in-Ok : goal.returns-in-Ok
returns-in-Ok c = given_as counts_said _ c.in-Ok.is c.give.ensures

pub returns-in-Err : goal.returns-in-Err
returns-in-Err c = given_number counts_said _ c.in-Err.is refl c.number.ensures
