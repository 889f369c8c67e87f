-- `report::track_line` meets its contract: by the test.
use mathlib.Core.Path.{sym, ◌∙◌}
use Rattle.report.proofs.Ways.{track_shown, track_hidden}
use Rattle.report.proofs.track_line.Goals as goal

pub returns-then-is_shown : goal.returns-then-is_shown
returns-then-is_shown c = track_shown _ _ _ (sym c.is_shown.ensures ∙ c.if-is_shown.true) c.row_of.ensures c.row_line.ensures

pub returns-else-is_shown : goal.returns-else-is_shown
returns-else-is_shown c = track_hidden _ _ _ (sym c.is_shown.ensures ∙ c.if-is_shown.false)
