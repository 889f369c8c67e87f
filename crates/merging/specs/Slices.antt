-- RULES 9.12: the slice's values as its types have them: a place has numbers of 64 and of 32 bits.
use Rattle.std.specs.Prelude.{ℕ, ◌^◌, ◌<◌, length, get_or}
use Rattle.track.specs.Track.{no_saved}
use Rattle.slice_places.specs.declared.Place.{Place}
use Rattle.slice_places.specs.Ranges.{no_place}
use Rattle.slice_table.specs.Slice.{Slice}

-- the times of a place are u64, and its longitude is u32
pub record Typed (p : Place) : Type 0 where
  pub heard : p.track.heard < 2 ^ 64
  pub longitude : p.track.position.spot.longitude < 2 ^ 32
  pub time : p.track.position.time < 2 ^ 64
  pub even : (get_or p.track.saved 0 no_saved).time < 2 ^ 64
  pub odd : (get_or p.track.saved 1 no_saved).time < 2 ^ 64

-- .. of all places
abbrev pub AllTyped : Slice → Type 0
AllTyped s = (i : ℕ) → i < length s.places → Typed (get_or s.places i no_place)
