-- `table::clock_of` meets its contract: its two ways out are the definition's.
use mathlib.Core.Path.{sym, ◌∙◌}
use Rattle.memory.proofs.Counts.{whole_head}
use Rattle.table.proofs.Answers.{clock_on, clock_size}
use Rattle.table.proofs.clock_of.Goals as goal

pub clock_of-requires : goal.clock_of-requires
clock_of-requires c = whole_head _ (sym c.whole_places.ensures ∙ c.if-whole_places.true)

pub returns-then-whole_places : goal.returns-then-whole_places
returns-then-whole_places c = clock_on _ c.whole_places.ensures c.if-whole_places.true c.clock_of.ensures

pub returns-else-whole_places : goal.returns-else-whole_places
returns-else-whole_places c = clock_size _ c.whole_places.ensures c.if-whole_places.false
