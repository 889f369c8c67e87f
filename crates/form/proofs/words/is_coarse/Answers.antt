-- `form::words::is_coarse` meets its contract: the one letter.
use Rattle.form.specs.Form.{is_coarse}
use Rattle.form.proofs.words.is_coarse.Goals as goal

pub returns : goal.returns
unfolding is_coarse
returns c = c.same.ensures
