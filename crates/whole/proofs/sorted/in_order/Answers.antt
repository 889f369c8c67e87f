-- `whole::sorted::in_order` meets its contract: what is gathered is sorted, and of each key the first is kept.
use Rattle.whole.proofs.Steps.{sorted_all}
use Rattle.whole.proofs.sorted.in_order.Goals as goal

pub returns : goal.returns
returns c =
    sorted_all c.args.table.now c.args.order.now c.requires.0 c.gather-k.ensures.0 c.gather-k.ensures.1 c.sort.ensures c.once.ensures.0 c.once.ensures.1
