-- Every place has a meaning in range: its track is what the values say, as they are meant.
-- Assumes nothing.
use Rattle.track.specs.Meaning.{NothingForeign}
use Rattle.track.proofs.Meanings.{meant_nothing_foreign}
use Rattle.slice_places.specs.declared.Place.{Place}
use Rattle.slice_places.specs.Ranges.{meaning_of}

-- whatever it holds, no ME of a foreign TYPE is read, and nothing where a mark is not set
pub any_place_nothing_foreign : (p : Place) → NothingForeign (meaning_of p)
any_place_nothing_foreign p = meant_nothing_foreign p.track
