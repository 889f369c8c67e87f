-- `table::look_up` meets its contract: its three ways out are the definition's.
use mathlib.Core.Bool.{not}
use mathlib.Core.Path.{ap}
use Rattle.table_bytes.proofs.Parts.{whole}
use Rattle.table.proofs.Answers.{look_size, look_found, look_none}
use Rattle.table.proofs.look_up.Goals as goal

pub returns-then-not-whole_places : goal.returns-then-not-whole_places
returns-then-not-whole_places c = look_size _ c.whole_places.ensures _ (ap not c.if-not-whole_places.true)

pub places_in-n-requires : goal.places_in-n-requires
places_in-n-requires c = whole _ c.whole_places.ensures (ap not c.if-not-whole_places.false)

pub returns-then-i-n : goal.returns-then-i-n
returns-then-i-n c = look_found _ c.whole_places.ensures _ (ap not c.if-not-whole_places.false) c.places_in-n.ensures.0 c.clock_of.ensures c.find_key-i.ensures c.if-i-n.true c.body.ensures.0 c.load.ensures

pub returns-else-i-n : goal.returns-else-i-n
returns-else-i-n c = look_none _ c.whole_places.ensures _ (ap not c.if-not-whole_places.false) c.places_in-n.ensures.0 c.clock_of.ensures c.find_key-i.ensures c.if-i-n.false
