-- `whole::lines::put_entry` meets its contract: the line of its row, or no text.
use native.Mathlib.Omega.{arith}
use mathlib.Core.Path.{sym, ◌∙◌}
use Rattle.text.specs.Lines.{row_text}
use Rattle.text.proofs.Fits.{row_most}
use Rattle.whole.proofs.Buffer.{added_none, added_as, put_line, line_len, line_bytes}
use Rattle.whole.proofs.Steps.{texts_shown, texts_hidden}
use borrow.Author.Rules.{rules}
use Rattle.whole.proofs.lines.put_entry.Goals as goal

pub returns-then-not-is_shown : goal.returns-then-not-is_shown
returns-then-not-is_shown c =
    let a = c.args in
    (omega arith, added_as (texts_hidden a.all a.table.now a.n a.e (sym c.is_shown.ensures ∙ c.if-not-is_shown.true)) (added_none a.at a.out.now))

pub put_line-requires : goal.put_line-requires
put_line-requires c =
    let row = c.row_at.result in
    let most = row_most row in
    (search rules, line_bytes (row_text row) (omega (arith, most)) c.row_line-line.ensures, omega (arith, line_len (row_text row) c.row_line-line.ensures, most))

pub returns : goal.returns
returns c =
    let a = c.args in
    let row = c.row_at.result in
    let most = row_most row in
    let len = line_len (row_text row) c.row_line-line.ensures in
    let shown = sym c.is_shown.ensures ∙ c.if-not-is_shown.false in (
      omega (arith, c.put_line.ensures.1, len, most),
      added_as (texts_shown a.all a.table.now a.n a.e shown c.row_at.ensures)
          (put_line (row_text row) a.at a.out.now (omega (arith, most)) c.requires.2 c.row_line-line.ensures c.put_line.ensures),
    )
