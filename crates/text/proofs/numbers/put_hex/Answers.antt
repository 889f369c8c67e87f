-- `text::numbers::put_hex` meets its contract: six digits, one after the other.
use Rattle.text.specs.Numbers.{hex}
use Rattle.text.proofs.Buffer.{wrote_then}
use Rattle.text.proofs.numbers.put_hex.Goals as goal

pub returns : goal.returns
unfolding hex
returns c =
    wrote_then (wrote_then (wrote_then (wrote_then (wrote_then
    c.put_digit-a.ensures
    c.put_digit-a-2.ensures)
    c.put_digit-a-3.ensures)
    c.put_digit-a-4.ensures)
    c.put_digit-a-5.ensures)
    c.put_digit.ensures
