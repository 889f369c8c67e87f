-- `compare::key_above` meets its contract: by the answer.
use Rattle.std.specs.Prelude.{Ok}
use mathlib.Core.Path.{sym, ap, ◌∙◌}
use Rattle.report.specs.Code.{key_or_limit}
use Rattle.compare.proofs.key_above.Goals as goal

pub returns-in-Ok-Some : goal.returns-in-Ok-Some
unfolding key_or_limit
returns-in-Ok-Some c = ap key_or_limit (sym (c.in-Ok-Some.is ∙ ap Ok c.in-Ok-Some.field-0-is) ∙ c.next.ensures)

pub returns-in-Ok-None : goal.returns-in-Ok-None
unfolding key_or_limit
returns-in-Ok-None c = ap key_or_limit (sym (c.in-Ok-None.is ∙ ap Ok c.in-Ok-None.field-0-is) ∙ c.next.ensures)

pub returns-in-Err : goal.returns-in-Err
unfolding key_or_limit
returns-in-Err c = ap key_or_limit (sym c.in-Err.is ∙ c.next.ensures)
