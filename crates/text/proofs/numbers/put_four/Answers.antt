-- `text::numbers::put_four` meets its contract: two digits, then two more.
use Rattle.text.proofs.Buffer.{wrote_then}
use Rattle.text.proofs.numbers.put_four.Goals as goal

pub returns : goal.returns
returns c = wrote_then c.put_two-a.ensures c.put_two.ensures
