-- `addercoil::figures::give_figures` meets its contract: by what the crate below answers.
use Rattle.addercoil.proofs.Figured.{figures_given, figures_refused}
use Rattle.addercoil.proofs.figures.give_figures.Goals as goal

pub returns-in-Ok : goal.returns-in-Ok
returns-in-Ok c = figures_given _ c.in-Ok.d c.in-Ok.is c.requires

pub returns-in-Err : goal.returns-in-Err
returns-in-Err c = figures_refused _ c.in-Err.is c.number.ensures
