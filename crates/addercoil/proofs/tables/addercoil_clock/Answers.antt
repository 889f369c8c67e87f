-- `addercoil::tables::addercoil_clock` meets its contract: an array of a wrong length, the clock, or the refusal.
use mathlib.Core.Path.{refl}
use Rattle.addercoil.specs.Tables.{clock_said}
use Rattle.entries.proofs.Ways.{into_wrong, into_right, into_refused}
use Rattle.addercoil.proofs.tables.addercoil_clock.Goals as goal

pub returns-then-out-ne1 : goal.returns-then-out-ne1
returns-then-out-ne1 c = into_wrong 1 _ _ c.if-out-ne1.true

pub returns-in-Ok : goal.returns-in-Ok
returns-in-Ok c = into_right clock_said _ c.in-Ok.is 1 c.if-out-ne1.false c.clock_of.ensures c.give.ensures

pub returns-in-Err : goal.returns-in-Err
returns-in-Err c = into_refused clock_said _ c.in-Err.is 1 c.if-out-ne1.false c.clock_of.ensures refl c.number.ensures
