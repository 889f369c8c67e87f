-- `report::line_of` meets its contract: its three ways out are the definition's.
use Rattle.std.specs.Prelude.{Ok}
use Rattle.std.proofs.lemmas.Result.{err_from_is_err_and}
use mathlib.Core.Path.{ap, ◌∙◌}
use Rattle.report.proofs.Ways.{line_held, line_unheld, line_refused}
use Rattle.report.proofs.line_of.Goals as goal

pub returns-in_err-track : goal.returns-in_err-track
returns-in_err-track c =
    let p = err_from_is_err_and c.from_residual.result c.from_residual.ensures.1 in
    rw (p.1, p.2) (line_refused _ _ c.look_up.ensures _ c.in_err-track.was)

pub returns-in-Some : goal.returns-in-Some
returns-in-Some c = line_held _ _ c.look_up.ensures _ (c.in_ok-track.was ∙ ap Ok c.in-Some.is) c.track_line.ensures

pub returns-in-None : goal.returns-in-None
returns-in-None c = line_unheld _ _ c.look_up.ensures _ (c.in_ok-track.was ∙ ap Ok c.in-None.is)
