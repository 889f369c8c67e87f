-- `capture::message_of` meets its contract: where `record_of` gives a start, the message's 14 bytes stand there.
use mathlib.Core.Path.{sym, ◌∙◌}
use native.Mathlib.Omega.{arith}
use Rattle.capture.proofs.Records.{inside, message_at, message_ended}
use Rattle.capture.proofs.message_of.Goals as goal

pub overflow_add-result : goal.overflow_add-result
overflow_add-result c = omega (arith, inside c.args.b.now c.args.i _ _ (sym c.in-Some.is ∙ c.record_of.ensures))

pub slice_bounds-result-end : goal.slice_bounds-result-end
slice_bounds-result-end c = omega (arith, inside c.args.b.now c.args.i _ _ (sym c.in-Some.is ∙ c.record_of.ensures))

pub returns-in-Some : goal.returns-in-Some
returns-in-Some c = message_at c.args.b.now c.args.i _ _ (sym c.in-Some.is ∙ c.record_of.ensures)

pub returns-in-None : goal.returns-in-None
returns-in-None c = message_ended c.args.b.now c.args.i (sym c.in-None.is ∙ c.record_of.ensures)
