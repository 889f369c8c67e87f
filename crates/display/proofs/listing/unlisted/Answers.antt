-- `display::listing::unlisted` meets its contract: by the test of the lengths.
use mathlib.Core.Path.{sym, ◌∙◌}
use Rattle.display.proofs.listing.unlisted.Goals as goal

pub returns-then-has_room : goal.returns-then-has_room
returns-then-has_room c = c.no_choice.ensures ∙ rw (sym c.has_room.ensures ∙ c.if-has_room.true)

pub returns-else-has_room : goal.returns-else-has_room
returns-else-has_room c = rw (sym c.has_room.ensures ∙ c.if-has_room.false)
