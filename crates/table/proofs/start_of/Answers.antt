-- `table::start_of` meets its contract: the arm is the definition's.
use mathlib.Core.Path.{ap, ◌∙◌}
use Rattle.place.specs.Place.{track_of}
use Rattle.table.proofs.start_of.Goals as goal

pub returns-then-target : goal.returns-then-target
returns-then-target c = rw c.if-target.true (c.load.ensures ∙ ap track_of c.body.ensures.0)
