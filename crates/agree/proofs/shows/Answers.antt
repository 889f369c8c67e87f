-- `agree::shows` meets its contract: the line of the row there, compared.
use mathlib.Core.Path.{◌≡◌, ap, ◌∙◌}
use Rattle.text.specs.declared.Line.{Line}
use Rattle.text.specs.Lines.{text_in}
use Rattle.text.proofs.Fits.{line_text_lem}
use Rattle.form.specs.Form.{same}
use Rattle.agree.specs.Near.{shows}
use Rattle.agree.proofs.shows.Goals as goal

pub returns : goal.returns
unfolding shows same
returns c = c.eq.ensures ∙ ap (same c.args.line.now) (c.as_bytes.ensures ∙ ap text_in c.row_line.ensures ∙ line_text_lem _)
