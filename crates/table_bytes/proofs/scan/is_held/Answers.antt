-- `table_bytes::scan::is_held` meets its contract: the key and the body are the place's.
use Rattle.table_bytes.proofs.Scanned.{held_as}
use Rattle.table_bytes.proofs.scan.is_held.Goals as goal

pub returns : goal.returns
returns c = held_as _ _ _ _ c.get4.ensures c.body.ensures.0 c.is_held.ensures
