-- `stamps::receive` meets its contract: where the message was heard the answer is the decoder's, and a number is the same.
use Rattle.stamps.proofs.Ways.{told_done, told_refused}
use Rattle.stamps.proofs.receive.Goals as goal

pub returns-in-Ok : goal.returns-in-Ok
returns-in-Ok c = told_done _ _ _ _ c.hear-heard.ensures c.in-Ok.is c.decode.ensures c.tell.ensures

pub returns-in-Err : goal.returns-in-Err
returns-in-Err c = told_refused _ _ _ _ c.hear-heard.ensures c.in-Err.is c.tell-in-Err.ensures
