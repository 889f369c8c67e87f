-- `table_bytes::scan::none_of_8` meets its contract: each test is the definition's.
use lib.Dec.{eqb}
use Rattle.table_bytes.proofs.Scanned.{none_8, same}
use Rattle.table_bytes.proofs.scan.none_of_8.Goals as goal

pub returns : goal.returns
returns c =
    let a = c.args in
    none_8 (λ k. eqb k a.key) a.s.now a.at (same a.key c.get4.ensures) (same a.key c.get4-2.ensures) (same a.key c.get4-3.ensures) (same a.key c.get4-4.ensures) (same a.key c.get4-5.ensures) (same a.key c.get4-6.ensures) (same a.key c.get4-7.ensures) (same a.key c.get4-8.ensures)
