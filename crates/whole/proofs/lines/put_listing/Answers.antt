-- `whole::lines::put_listing` meets its contract: the header in a buffer of zeros, then the lines.
use native.Mathlib.Omega.{arith}
use lib.ListN.{take}
use Rattle.text.specs.Lines.{header_text}
use Rattle.text.proofs.Fits.{header_most}
use Rattle.whole.specs.Code.{rows_at}
use Rattle.whole.proofs.Buffer.{put_none, put_line, line_len, line_bytes}
use Rattle.whole.proofs.Ways.{put_both}
use Rattle.whole.proofs.lines.put_listing.Goals as goal

pub put_line-at-requires : goal.put_line-at-requires
put_line-at-requires c =
    let a = c.args in
    let clock = c.clock_of.result in
    let rows = c.count-rows.result in
    (omega (arith, c.requires.2), line_bytes (header_text clock rows a.bad) (omega (arith, header_most clock rows a.bad)) c.header_line-line.ensures, omega (arith, line_len (header_text clock rows a.bad) c.header_line-line.ensures, header_most clock rows a.bad))

pub put_lines-requires : goal.put_lines-requires
put_lines-requires c =
    let clock = c.clock_of.result in
    let rows = c.count-rows.result in
    let len = line_len (header_text clock rows c.args.bad) c.header_line-line.ensures in
    (c.requires.0, c.requires.1, omega (arith, len, header_most clock rows c.args.bad, c.put_line-at.ensures.1, c.requires.2))

pub returns : goal.returns
returns c =
    let a = c.args in
    let clock = c.clock_of.result in
    let rows = c.count-rows.result in
    put_both a.bad (rows_at a.all a.table.now a.n (take a.k a.order.now)) (put_none a.out.now c.requires.3) c.clock_of.ensures c.count-rows.ensures
    (put_line (header_text clock rows a.bad) 0 a.out.now (omega (arith, header_most clock rows a.bad)) (omega (arith, c.requires.2)) c.header_line-line.ensures c.put_line-at.ensures)
    c.put_lines.ensures
