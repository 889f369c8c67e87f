-- `form::words::line_fits` meets its contract: the words of a line of kind C, or of any other.
use Rattle.form.proofs.Fitting.{line_fits}
use Rattle.form.proofs.words.line_fits.Goals as goal

pub returns : goal.returns
returns c = line_fits _ c.words_fit.ensures c.words_fit-2.ensures
