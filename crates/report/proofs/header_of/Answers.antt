-- `report::header_of` meets its contract: its two ways out are the definition's, and a table that has a clock can be counted.
use Rattle.std.proofs.lemmas.Result.{err_from_is_err_and}
use Rattle.report.proofs.Ways.{clock_whole, header_known, header_refused}
use Rattle.report.proofs.header_of.Goals as goal

pub returns-in_err-time : goal.returns-in_err-time
returns-in_err-time c =
    let p = err_from_is_err_and c.from_residual.result c.from_residual.ensures.1 in
    rw (p.1, p.2) (header_refused _ c.clock_of.ensures _ _ c.in_err-time.was)

pub count-requires : goal.count-requires
count-requires c = clock_whole _ c.clock_of.ensures c.in_ok-time.was

pub returns : goal.returns
returns c = header_known _ c.clock_of.ensures _ _ c.in_ok-time.was c.count.ensures c.header_line.ensures
