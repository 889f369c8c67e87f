-- RULES 19.3: what the answers say in the rules' terms: 8, or the position after the message.
use Rattle.std.specs.Prelude.{◌≡◌, Bool, true, Result, Ok, Err}
use Rattle.refusals.specs.Numbers.{number_of}
use Rattle.refusals.specs.Said.{Said, number, gives}
use Rattle.positions.specs.declared.Spot.{Spot}
use Rattle.positions.specs.Positions.{count_size, fit, pole_to_pole}
use Rattle.whereabouts.specs.declared.Saved.{Saved}
use Rattle.whereabouts.specs.declared.Position.{Position}
use Rattle.whereabouts.specs.Located.{size_of}
use Rattle.refusals.specs.declared.Refusal.{Refusal}

abbrev pub placed_said : Result Position Refusal → Said Position
placed_said (Ok p) = gives p
placed_said (Err r) = number (number_of r)

-- 8 and no other number
abbrev pub OnlyEight : Said Position → Type 0
OnlyEight (gives p) = Unit
OnlyEight (number n) = n ≡ 8

-- no number
abbrev pub NoNumber : Said Position → Type 0
NoNumber (gives p) = Unit
NoNumber (number n) = ⊥

-- what is marked as known is in its range: both counts of an encoded position, by their size; the latitude of a spot
abbrev pub SavedFits : Saved → Type 0
SavedFits s = s.known ≡ true → fit (count_size (size_of s.coarse)) s.counts ≡ true

abbrev pub LatitudeFits : Bool → Spot → Type 0
LatitudeFits known s = known ≡ true → pole_to_pole s.latitude ≡ true
