-- `table_bytes::walk::better_of` meets its contract: its tests are the definition's, the dearest last.
use Rattle.table_bytes.proofs.Scanned.{better_yes, better_out, better_no}
use Rattle.table_bytes.proofs.walk.better_of.Goals as goal
use Rattle.table_bytes.proofs.walk.better_of.Goals.{else-is_better-via-then-is_better+else-is_held, else-is_better-via-else-is_better}

pub returns-then-is_held : goal.returns-then-is_held
returns-then-is_held c =
    let a = c.args in
    better_yes a.s.now a.n a.i a.clock a.above a.best c.is_better.ensures c.if-is_better.true c.is_held.ensures c.if-is_held.true c.get4.ensures

pub returns-else-is_better : goal.returns-else-is_better
returns-else-is_better c =
    let a = c.args in
    elim c.else-is_better.branch [
      | else-is_better-via-then-is_better+else-is_held w ↦ better_out a.s.now a.n a.i a.clock a.above a.best c.is_better.ensures w.if-is_better.true w.is_held.ensures w.if-is_held.false
      | else-is_better-via-else-is_better w ↦ better_no a.s.now a.n a.i a.clock a.above a.best c.is_better.ensures w.if-is_better.false
    ]
