-- `text::row_line` meets its contract: what is written into zeros is the line, since its text fits.
use native.Mathlib.Omega.{arith}
use Rattle.text.proofs.Fits.{row_most, line_made}
use Rattle.text.proofs.row_line.Goals as goal

pub returns : goal.returns
returns c = line_made (omega (arith, row_most c.args.row)) c.fill_row-len.ensures
