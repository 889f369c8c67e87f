-- `table_bytes::scan::held_4` meets its contract: each test is the definition's.
use Rattle.table_bytes.specs.Layout.{place_at}
use Rattle.table_bytes.proofs.Scanned.{held_4}
use Rattle.table_bytes.proofs.scan.held_4.Goals as goal

pub returns : goal.returns
returns c =
    let a = c.args in
    held_4 (place_at a.s.now a.n) a.clock a.i c.is_held.ensures c.is_held-2.ensures c.is_held-3.ensures c.is_held-4.ensures
