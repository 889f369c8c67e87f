-- `form::words::is_kind` meets its contract: the five letters.
use mathlib.Core.Path.{ap₂}
use mathlib.Core.Bool.{◌||◌}
use Rattle.form.specs.Form.{is_kind}
use Rattle.form.proofs.words.is_kind.Goals as goal

pub returns : goal.returns
unfolding is_kind
returns c =
    ap₂ ◌||◌ (ap₂ ◌||◌ (ap₂ ◌||◌ (ap₂ ◌||◌
    c.same.ensures
    c.same-2.ensures)
    c.same-3.ensures)
    c.same-4.ensures)
    c.same-5.ensures
