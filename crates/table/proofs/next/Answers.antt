-- `table::next` meets its contract: its two ways out are the definition's.
use mathlib.Core.Bool.{not}
use mathlib.Core.Path.{ap}
use Rattle.table_bytes.proofs.Parts.{whole}
use Rattle.table.proofs.Answers.{next_size, next_on}
use Rattle.table.proofs.next.Goals as goal

pub returns-then-not-whole_places : goal.returns-then-not-whole_places
returns-then-not-whole_places c = next_size _ c.whole_places.ensures _ (ap not c.if-not-whole_places.true)

pub places_in-n-requires : goal.places_in-n-requires
places_in-n-requires c = whole _ c.whole_places.ensures (ap not c.if-not-whole_places.false)

pub returns : goal.returns
returns c = next_on _ c.whole_places.ensures _ (ap not c.if-not-whole_places.false) c.places_in-n.ensures.0 c.clock_of-clock.ensures c.smallest_above.ensures c.key_or_end.ensures
