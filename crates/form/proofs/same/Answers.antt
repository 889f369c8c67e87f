-- `form::same` meets its contract: equal as slices.
use Rattle.form.specs.Form.{same}
use Rattle.form.proofs.same.Goals as goal

pub returns : goal.returns
unfolding same
returns c = c.eq.ensures
