-- The edge of a track's age, computed on both sides: it is in date 124,999 after it was last heard, and no longer at 125,000; a time after the clock has age 0.
-- Assumes nothing.
use mathlib.Core.Path.{◌≡◌, refl}
use mathlib.Core.Bool.{true, false}
use Rattle.track.specs.Held.{in_date}

pub in_date_edge : (in_date 125000 1 ≡ true) × (in_date 125000 0 ≡ false) × (in_date 0 1 ≡ true)
in_date_edge = (refl, refl, refl)
