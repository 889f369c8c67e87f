-- `table::site_of` meets its contract: its two ways out are the definition's.
use mathlib.Core.Path.{sym, ◌∙◌}
use Rattle.memory.proofs.Counts.{whole_head}
use Rattle.table.proofs.Answers.{site_in_lem, no_site_lem}
use Rattle.table.proofs.site_of.Goals as goal

pub site_of-requires : goal.site_of-requires
site_of-requires c = whole_head _ (sym c.whole_places.ensures ∙ c.if-whole_places.true)

pub returns-then-whole_places : goal.returns-then-whole_places
returns-then-whole_places c = site_in_lem _ c.whole_places.ensures c.if-whole_places.true c.site_of.ensures

pub returns-else-whole_places : goal.returns-else-whole_places
returns-else-whole_places c = no_site_lem _ c.whole_places.ensures c.if-whole_places.false
