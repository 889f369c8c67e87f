-- `text::fill_header` meets its contract: four texts, one after the other.
use Rattle.text.specs.Lines.{header_text}
use Rattle.text.proofs.Buffer.{wrote_then}
use Rattle.text.proofs.fill_header.Goals as goal

pub returns : goal.returns
unfolding header_text
returns c =
    wrote_then (wrote_then (wrote_then
    c.put_field-a.ensures.wrote
    c.put_field-a-2.ensures.wrote)
    c.put_field-a-3.ensures.wrote)
    c.put_byte.ensures
