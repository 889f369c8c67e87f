-- `text::header_line` meets its contract: what is written into zeros is the line, since its text fits.
use native.Mathlib.Omega.{arith}
use Rattle.text.proofs.Fits.{header_most, line_made}
use Rattle.text.proofs.header_line.Goals as goal

pub returns : goal.returns
returns c =
    let a = c.args in
    line_made (omega (arith, header_most a.clock a.tracks a.bad)) c.fill_header-len.ensures
