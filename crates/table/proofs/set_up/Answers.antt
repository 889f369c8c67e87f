-- `table::set_up` meets its contract: its two ways out are the definition's.
use mathlib.Core.Bool.{not}
use mathlib.Core.Path.{ap}
use Rattle.table.proofs.Answers.{set_up_size, set_up_on}
use Rattle.table.proofs.set_up.Goals as goal

pub returns-then-not-whole_places : goal.returns-then-not-whole_places
returns-then-not-whole_places c = set_up_size _ c.whole_places.ensures (ap not c.if-not-whole_places.true)

pub returns : goal.returns
returns c = set_up_on _ c.whole_places.ensures (ap not c.if-not-whole_places.false) c.clear.ensures
