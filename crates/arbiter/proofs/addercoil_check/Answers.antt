-- `arbiter::addercoil_check` meets its contract: an array of a wrong length, yes, the line at fault, or the refusal.
use Rattle.std.specs.Prelude.{Ok}
use mathlib.Core.Path.{refl, ap, ◌∙◌}
use Rattle.entries.proofs.Ways.{into_wrong, into_right, into_refused}
use Rattle.arbiter.specs.Checks.{check_said}
use Rattle.arbiter.proofs.addercoil_check.Goals as goal

pub returns-then-out-ne1 : goal.returns-then-out-ne1
returns-then-out-ne1 c = into_wrong 1 _ _ c.if-out-ne1.true

pub returns-in-Ok-None : goal.returns-in-Ok-None
returns-in-Ok-None c =
    into_right check_said _ (c.in-Ok-None.is ∙ ap Ok c.in-Ok-None.field-0-is) 1 c.if-out-ne1.false c.check.ensures c.give.ensures

pub returns-in-Ok-Some : goal.returns-in-Ok-Some
returns-in-Ok-Some c =
    into_right check_said _ (c.in-Ok-Some.is ∙ ap Ok c.in-Ok-Some.field-0-is) 1 c.if-out-ne1.false c.check.ensures c.give-in-Ok-Some.ensures

pub returns-in-Err : goal.returns-in-Err
returns-in-Err c = into_refused check_said _ c.in-Err.is 1 c.if-out-ne1.false c.check.ensures refl c.number.ensures
