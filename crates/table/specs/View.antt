-- RULES 9.8: the abstract table of `rules`, of the lent bytes.
use Rattle.std.specs.Prelude.{ℕ, List, Option}
use Rattle.track.specs.declared.Track.{Track}
use Rattle.rules.specs.View as rules
use Rattle.table.specs.Bytes.{bytes}

-- the track of a key at the table's clock, if there is one
abbrev pub view : List ℕ → ℕ → Option Track
view s key = rules.view bytes s key

-- some place holds the key at the table's clock
abbrev pub HeldKey : List ℕ → ℕ → Type 0
HeldKey s key = rules.HeldKey bytes s key
