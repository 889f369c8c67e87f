-- `display::lines::give_line` meets its contract: the buffer is filled with the bytes.
use mathlib.Core.Path.{ap}
use Rattle.entries.specs.Sent.{sent}
use Rattle.display.proofs.lines.give_line.Goals as goal

pub returns : goal.returns
returns c = ap (sent 0) c.fill_bytes.ensures
