-- `display::lines::addercoil_header` meets its contract: a buffer of a wrong length, a choice that is neither 0 nor 1, or what is printed.
use borrow.Author.Tests.{lt-ltb, le-ltb}
use Rattle.display.specs.Lines.{line_buffer}
use Rattle.display.proofs.Reported.{header_unchosen, header_given, header_refused}
use Rattle.entries.proofs.Ways.{into_wrong, into_given}
use Rattle.display.proofs.lines.addercoil_header.Goals as goal

pub returns-then-out-ne-BUFFER : goal.returns-then-out-ne-BUFFER
returns-then-out-ne-BUFFER c = into_wrong line_buffer _ _ c.if-out-ne-BUFFER.true

pub returns-then-all-gt1 : goal.returns-then-all-gt1
returns-then-all-gt1 c = into_given line_buffer _ _ c.if-out-ne-BUFFER.false (header_unchosen _ _ _ _ (lt-ltb _ _ c.if-all-gt1.true) c.no_choice.ensures)

pub returns-in-Ok : goal.returns-in-Ok
returns-in-Ok c =
    into_given line_buffer _ _ c.if-out-ne-BUFFER.false (header_given _ _ _ (le-ltb _ _ c.if-all-gt1.false) _ c.header_of.ensures c.in-Ok.is c.give_line.ensures)

pub returns-in-Err : goal.returns-in-Err
returns-in-Err c =
    into_given line_buffer _ _ c.if-out-ne-BUFFER.false (header_refused _ _ _ (le-ltb _ _ c.if-all-gt1.false) _ c.header_of.ensures c.in-Err.is c.number.ensures)
