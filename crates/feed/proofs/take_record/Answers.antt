-- `feed::take_record` meets its contract: where `record_of` gives a start, the message's 14 bytes stand there; past the end there is no message.
use mathlib.Core.Path.{sym, ◌∙◌}
use native.Mathlib.Omega.{arith}
use Rattle.capture.proofs.Records.{inside}
use Rattle.feed.proofs.Ways.{record_taken, none_taken}
use Rattle.feed.proofs.take_record.Goals as goal

pub overflow_add-end : goal.overflow_add-end
overflow_add-end c =
    let a = c.args in
    omega (arith, inside a.block.now a.i _ _ (sym c.in-Some.is ∙ c.record_of.ensures))

pub slice_bounds-hear-end : goal.slice_bounds-hear-end
slice_bounds-hear-end c =
    let a = c.args in
    omega (arith, inside a.block.now a.i _ _ (sym c.in-Some.is ∙ c.record_of.ensures))

pub returns-in-Some : goal.returns-in-Some
returns-in-Some c =
    let a = c.args in
    record_taken a.table.now a.block.now a.i _ _ (sym c.in-Some.is ∙ c.record_of.ensures) c.hear.ensures

pub returns-in-None : goal.returns-in-None
returns-in-None c =
    let a = c.args in
    none_taken a.table.now a.block.now a.i (sym c.in-None.is ∙ c.record_of.ensures)
