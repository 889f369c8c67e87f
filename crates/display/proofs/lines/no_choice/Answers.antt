-- `display::lines::no_choice` meets its contract: by the test of the table's length.
use mathlib.Core.Path.{sym, ◌∙◌}
use Rattle.display.proofs.lines.no_choice.Goals as goal

pub returns-then-whole_places : goal.returns-then-whole_places
returns-then-whole_places c = rw (sym c.whole_places.ensures ∙ c.if-whole_places.true)

pub returns-else-whole_places : goal.returns-else-whole_places
returns-else-whole_places c = rw (sym c.whole_places.ensures ∙ c.if-whole_places.false)
