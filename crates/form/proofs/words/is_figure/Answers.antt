-- `form::words::is_figure` meets its contract: the four cases.
use mathlib.Core.Path.{ap₂}
use mathlib.Core.Bool.{◌||◌}
use Rattle.form.specs.Form.{is_figure}
use Rattle.form.proofs.words.is_figure.Goals as goal

pub returns : goal.returns
unfolding is_figure
returns c = ap₂ ◌||◌ (ap₂ ◌||◌ (ap₂ ◌||◌ c.same.ensures c.same-2.ensures) c.is_positive.ensures) c.is_negative.ensures
