-- `entries::arrays::give` meets its contract: the array is filled with the list.
use mathlib.Core.Path.{ap}
use Rattle.entries.specs.Sent.{sent}
use Rattle.entries.proofs.arrays.give.Goals as goal

pub returns : goal.returns
returns c = ap (sent 0) c.fill.ensures
