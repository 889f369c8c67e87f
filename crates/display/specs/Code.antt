-- What private functions promise to each other: a choice that is none. No public contract cites this file.
use Rattle.std.specs.Prelude.{ℕ, cond, not, List, length}
use Rattle.memory.specs.Offsets.{whole_places}
use Rattle.whole.specs.Whole.{room_for}

-- the number of a choice that is neither 0 nor 1: 7 comes before 8
abbrev pub no_choice : List ℕ → ℕ
no_choice s = cond (not (whole_places (length s))) 7 8

-- .. of a whole listing: 1 comes before both
abbrev pub no_listing : List ℕ → ℕ → ℕ → ℕ
no_listing s order out = cond (not (room_for s order out)) 1 (no_choice s)
