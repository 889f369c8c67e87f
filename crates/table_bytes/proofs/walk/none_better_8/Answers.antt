-- `table_bytes::walk::none_better_8` meets its contract: each test is the definition's.
use Rattle.rules.specs.Search.{beats}
use Rattle.table_bytes.proofs.Scanned.{none_8}
use Rattle.table_bytes.proofs.walk.none_better_8.Goals as goal

pub returns : goal.returns
returns c =
    let a = c.args in
    none_8 (beats a.above a.best) a.s.now a.at c.is_better.ensures c.is_better-2.ensures c.is_better-3.ensures c.is_better-4.ensures c.is_better-5.ensures c.is_better-6.ensures c.is_better-7.ensures c.is_better-8.ensures
