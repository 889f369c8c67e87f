-- `compare::check` meets its contract: 14, then 16, or the verdict.
use mathlib.Core.Path.{ap}
use mathlib.Core.Bool.{not}
use Rattle.compare.proofs.Ways.{too_many, out_of_form, both_taken}
use Rattle.compare.proofs.check.Goals as goal

pub returns-then-records_in-gt2900 : goal.returns-then-records_in-gt2900
returns-then-records_in-gt2900 c = too_many _ _ c.records_in.ensures c.if-records_in-gt2900.true

pub returns-then-not-in_form : goal.returns-then-not-in_form
returns-then-not-in_form c = out_of_form _ _ c.records_in.ensures c.if-records_in-gt2900.false c.in_form.ensures (ap not c.if-not-in_form.true)

pub returns : goal.returns
returns c = both_taken _ _ c.records_in.ensures c.if-records_in-gt2900.false c.in_form.ensures (ap not c.if-not-in_form.false) c.verdict.ensures
