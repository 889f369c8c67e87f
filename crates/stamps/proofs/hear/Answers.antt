-- `stamps::hear` meets its contract: by the time of the stamp, what the table hears, or the refusal with all as it was.
use Rattle.stamps.proofs.Ways.{heard_on, not_heard}
use Rattle.stamps.proofs.hear.Goals as goal

pub returns-in-Ok : goal.returns-in-Ok
returns-in-Ok c = heard_on _ _ _ _ c.time_of.ensures c.in-Ok.is c.last_is.ensures c.hear.ensures c.note.ensures

pub returns-in-Err : goal.returns-in-Err
returns-in-Err c = not_heard _ _ _ _ c.time_of.ensures c.in-Err.is c.note-in-Err.ensures
