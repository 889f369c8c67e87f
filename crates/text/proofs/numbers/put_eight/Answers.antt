-- `text::numbers::put_eight` meets its contract: four digits, then four more.
use Rattle.text.proofs.Buffer.{wrote_then}
use Rattle.text.proofs.numbers.put_eight.Goals as goal

pub returns : goal.returns
returns c = wrote_then c.put_four-a.ensures c.put_four.ensures
