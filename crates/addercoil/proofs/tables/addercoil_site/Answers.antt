-- `addercoil::tables::addercoil_site` meets its contract: an array of a wrong length, the site, or the refusal.
use mathlib.Core.Path.{refl}
use Rattle.addercoil.specs.Tables.{site_said}
use Rattle.entries.proofs.Ways.{into_wrong, into_right, into_refused}
use Rattle.addercoil.proofs.tables.addercoil_site.Goals as goal

pub returns-then-out-ne3 : goal.returns-then-out-ne3
returns-then-out-ne3 c = into_wrong 3 _ _ c.if-out-ne3.true

pub returns-in-Ok : goal.returns-in-Ok
returns-in-Ok c = into_right site_said _ c.in-Ok.is 3 c.if-out-ne3.false c.site_of.ensures c.give_site.ensures

pub returns-in-Err : goal.returns-in-Err
returns-in-Err c = into_refused site_said _ c.in-Err.is 3 c.if-out-ne3.false c.site_of.ensures refl c.number.ensures
