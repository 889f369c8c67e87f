-- `text::write::put_byte` meets its contract: a byte within the buffer is stored.
use Rattle.text.proofs.Buffer.{wrote_byte}
use Rattle.text.proofs.write.put_byte.Goals as goal

pub returns : goal.returns
returns c = wrote_byte _ _ _
