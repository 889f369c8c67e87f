-- `whole::lines::is_shown` meets its contract: the mark that is read is that of the position.
use Rattle.whole.proofs.Steps.{shown_read}
use Rattle.whole.proofs.lines.is_shown.Goals as goal

pub returns : goal.returns
returns c =
    let a = c.args in
    shown_read a.all a.table.now a.n a.e c.place_of.ensures c.body.ensures.0 c.get4-marks.ensures
