-- `stamps::time_of` meets its contract: a wrong length, or by what the table says of its clock.
use Rattle.std.proofs.Common.{sym}
use Rattle.std.proofs.lemmas.Result.{err_from_is_err_and}
use Rattle.table.specs.Bytes.{bytes}
use Rattle.stamps.proofs.Ways.{no_length, clock_found, no_clock}
use Rattle.stamps.proofs.time_of.Goals as goal

pub returns-then-message-ne14 : goal.returns-then-message-ne14
returns-then-message-ne14 c = sym (no_length bytes _ _ _ _ c.if-message-ne14.true)

pub returns : goal.returns
returns c = clock_found _ _ _ _ c.if-message-ne14.false c.clock_of.ensures c.in_ok-clock.was c.extend.ensures

pub returns-in_err-clock : goal.returns-in_err-clock
returns-in_err-clock c =
    let p = err_from_is_err_and c.from_residual.result c.from_residual.ensures.1 in
    rw (p.1, p.2) (no_clock _ _ _ _ c.if-message-ne14.false c.clock_of.ensures c.in_err-clock.was)
