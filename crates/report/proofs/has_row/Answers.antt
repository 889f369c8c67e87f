-- `report::has_row` meets its contract: its two tests are the definition's.
use Rattle.report.proofs.Counted.{first_shown, not_first}
use Rattle.report.proofs.has_row.Goals as goal

pub returns-then-is_first : goal.returns-then-is_first
returns-then-is_first c =
    let a = c.args in
    first_shown a.all a.clock a.table.now a.n a.i c.is_first.ensures c.if-is_first.true c.body.ensures.0 c.load-track.ensures c.is_shown.ensures

pub returns-else-is_first : goal.returns-else-is_first
returns-else-is_first c =
    let a = c.args in
    not_first a.all a.clock a.table.now a.n a.i c.is_first.ensures c.if-is_first.false
