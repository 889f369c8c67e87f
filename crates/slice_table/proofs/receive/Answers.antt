-- `slice_table::receive` meets its contract: what is judged is delivered.
use mathlib.Core.Path.{◌∙◌}
use Rattle.slice_table.proofs.Delivered.{received_is}
use Rattle.slice_table.proofs.receive.Goals as goal

pub returns : goal.returns
returns c = c.deliver.ensures ∙ received_is c.args.places.now c.args.head c.args.message.now c.args.time c.judge-due.result c.judge-due.ensures
