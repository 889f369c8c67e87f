-- `display::lines::addercoil_line` meets its contract: a buffer of a wrong length, a choice that is neither 0 nor 1, or what is printed.
use Rattle.std.specs.Prelude.{Ok}
use mathlib.Core.Path.{ap, ◌∙◌}
use Rattle.entries.specs.Sent.{sent}
use borrow.Author.Tests.{lt-ltb, le-ltb}
use Rattle.display.specs.Lines.{line_buffer}
use Rattle.display.proofs.Reported.{line_unchosen, line_there, line_none, line_refused}
use Rattle.entries.proofs.Ways.{into_wrong, into_given}
use Rattle.display.proofs.lines.addercoil_line.Goals as goal

pub returns-then-out-ne-BUFFER : goal.returns-then-out-ne-BUFFER
returns-then-out-ne-BUFFER c = into_wrong line_buffer _ _ c.if-out-ne-BUFFER.true

pub returns-then-all-gt1 : goal.returns-then-all-gt1
returns-then-all-gt1 c = into_given line_buffer _ _ c.if-out-ne-BUFFER.false (line_unchosen _ _ _ _ (lt-ltb _ _ c.if-all-gt1.true) c.no_choice.ensures)

pub returns-in-Ok-Some : goal.returns-in-Ok-Some
returns-in-Ok-Some c =
    into_given line_buffer _ _ c.if-out-ne-BUFFER.false (line_there _ _ _ (le-ltb _ _ c.if-all-gt1.false) _ c.line_of.ensures (c.in-Ok-Some.is ∙ ap Ok c.in-Ok-Some.field-0-is) c.give_line.ensures)

pub returns-in-Ok-None : goal.returns-in-Ok-None
returns-in-Ok-None c =
    into_given line_buffer _ _ c.if-out-ne-BUFFER.false (line_none _ _ _ (le-ltb _ _ c.if-all-gt1.false) _ c.line_of.ensures (c.in-Ok-None.is ∙ ap Ok c.in-Ok-None.field-0-is) (ap (sent 0) c.fill_bytes.ensures))

pub returns-in-Err : goal.returns-in-Err
returns-in-Err c =
    into_given line_buffer _ _ c.if-out-ne-BUFFER.false (line_refused _ _ _ (le-ltb _ _ c.if-all-gt1.false) _ c.line_of.ensures c.in-Err.is c.number.ensures)
