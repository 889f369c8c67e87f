-- `text::fill_row` meets its contract: seven texts, one after the other.
use Rattle.text.specs.Lines.{row_text}
use Rattle.text.proofs.Buffer.{wrote_then}
use Rattle.text.proofs.fill_row.Goals as goal

pub returns : goal.returns
unfolding row_text
returns c =
    wrote_then (wrote_then (wrote_then (wrote_then (wrote_then (wrote_then
    c.put_key-a.ensures.wrote
    c.put_number-a.ensures.wrote)
    c.put_figure-a.ensures.wrote)
    c.put_figure-a-2.ensures.wrote)
    c.put_figure-a-3.ensures.wrote)
    c.put_figure-a-4.ensures.wrote)
    c.put_byte.ensures
