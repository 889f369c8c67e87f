-- `table_bytes::scan::none_of_4` meets its contract: each test is the definition's.
use lib.Dec.{eqb}
use Rattle.table_bytes.proofs.Scanned.{none_4, same}
use Rattle.table_bytes.proofs.scan.none_of_4.Goals as goal

pub returns : goal.returns
returns c =
    let a = c.args in
    none_4 (λ k. eqb k a.key) a.s.now a.at (same a.key c.get4.ensures) (same a.key c.get4-2.ensures) (same a.key c.get4-3.ensures) (same a.key c.get4-4.ensures)
