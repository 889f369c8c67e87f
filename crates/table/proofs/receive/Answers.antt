-- `table::receive` meets its contract: where the message was heard the answer is the decoder's, and a number is the same.
use Rattle.std.proofs.lemmas.Result.{err_from_is_err_and}
use Rattle.table.proofs.Hearing.{received_done, received_refused}
use Rattle.table.proofs.receive.Goals as goal

pub returns : goal.returns
returns c = received_done _ _ _ c.hear.ensures c.in_ok-hear.was c.decode.ensures

pub returns-in_err-hear : goal.returns-in_err-hear
returns-in_err-hear c =
    let p = err_from_is_err_and c.from_residual.result c.from_residual.ensures.1 in
    rw (p.1, p.2) (received_refused _ _ _ _ c.hear.ensures c.in_err-hear.was)
