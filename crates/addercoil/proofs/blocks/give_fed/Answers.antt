-- `addercoil::blocks::give_fed` meets its contract: by what the feeding answers.
use mathlib.Core.Path.{refl}
use Rattle.addercoil.specs.Blocks.{fed_said}
use Rattle.entries.proofs.Ways.{given_as, given_number}
use Rattle.addercoil.proofs.blocks.give_fed.Goals as goal

pub returns-in-Ok : goal.returns-in-Ok
returns-in-Ok c = given_as fed_said _ c.in-Ok.is c.give.ensures

pub returns-in-Err : goal.returns-in-Err
returns-in-Err c = given_number fed_said _ c.in-Err.is refl c.number.ensures
