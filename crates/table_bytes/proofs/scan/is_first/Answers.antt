-- `table_bytes::scan::is_first` meets its contract: where the place is held it is the first if its key is found there.
use Rattle.table_bytes.proofs.Scanned.{first_held}
use Rattle.table_bytes.proofs.scan.is_first.Goals as goal

pub returns-then-is_held : goal.returns-then-is_held
returns-then-is_held c =
    let a = c.args in
    first_held a.s.now a.n a.clock a.i c.is_held.ensures c.if-is_held.true c.get4.ensures c.find_key.ensures
