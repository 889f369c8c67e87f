-- `table_bytes::layout::places_in` meets its contract: whole places have the size that the division needs.
use mathlib.Core.Path.{refl}
use Rattle.memory.proofs.Counts.{whole_head, whole_room}
use Rattle.table_bytes.proofs.layout.places_in.Goals as goal

pub overflow_sub-result : goal.overflow_sub-result
overflow_sub-result c = whole_head _ c.requires

pub returns : goal.returns
returns c = (refl, whole_room c.args.s.now c.requires)
