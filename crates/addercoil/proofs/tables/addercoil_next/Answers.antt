-- `addercoil::tables::addercoil_next` meets its contract: an array of a wrong length, the key, the end, or the refusal.
use Rattle.std.specs.Prelude.{Ok}
use mathlib.Core.Path.{refl, ap, ◌∙◌}
use Rattle.addercoil.specs.Tables.{next_said}
use Rattle.entries.proofs.Ways.{into_wrong, into_right, into_refused}
use Rattle.addercoil.proofs.tables.addercoil_next.Goals as goal

pub returns-then-out-ne1 : goal.returns-then-out-ne1
returns-then-out-ne1 c = into_wrong 1 _ _ c.if-out-ne1.true

pub returns-in-Ok-Some : goal.returns-in-Ok-Some
returns-in-Ok-Some c = into_right next_said _ (c.in-Ok-Some.is ∙ ap Ok c.in-Ok-Some.field-0-is) 1 c.if-out-ne1.false c.next.ensures c.give.ensures

pub returns-in-Ok-None : goal.returns-in-Ok-None
returns-in-Ok-None c = into_right next_said _ (c.in-Ok-None.is ∙ ap Ok c.in-Ok-None.field-0-is) 1 c.if-out-ne1.false c.next.ensures c.give-in-Ok-None.ensures

pub returns-in-Err : goal.returns-in-Err
returns-in-Err c = into_refused next_said _ c.in-Err.is 1 c.if-out-ne1.false c.next.ensures refl c.number.ensures
