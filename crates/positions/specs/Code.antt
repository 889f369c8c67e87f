-- What the private functions promise to each other, over naturals. No public contract cites this file.
-- A number that can be below zero is held one whole turn up: the difference of a natural and the turn.
use Rattle.std.specs.Prelude.{◌≡◌, List, map, ◌⊎◌, ℕ, ◌+◌, ◌*◌, ◌/◌, ◌≤◌, ◌<◌}
use Rattle.std.proofs.Math.IntN.{sub_ℕ}
use Rattle.positions.specs.declared.Format.{Format}
use Rattle.positions.specs.declared.Size.{Size}
use Rattle.positions.specs.declared.Size.TheVariants.{Fine, Coarse}
use Rattle.positions.specs.declared.Counts.{Counts}
use Rattle.positions.specs.Zones.{latitudes}
use Rattle.positions.specs.Positions.{latitude_zones, less360, pair_latitude}

-- the code's counts are of 2^17: a count of a size is so many of these
abbrev pub factor : Size → ℕ
factor Fine = 1
factor Coarse = 32

-- how many counts a zone has, of either size
abbrev pub IsSize : ℕ → Type 0
IsSize P = (P ≡ 131072) ⊎ (P ≡ 4096)

abbrev pub times : ℕ → Counts → Counts
times k c = record { latitude = record { 0 = c.latitude.0 * k }; longitude = record { 0 = c.longitude.0 * k } }

-- a / d to nearest, half up
unfoldable pub nearestℕ : ℕ → ℕ → ℕ
nearestℕ a d = (2 * a + d) / (2 * d)

-- the code's unit of latitude: so many make 360 degrees. Of 59, 60, 236 and 240 zones and counts of 2^17 it is the largest of which each count is a whole number
abbrev pub fine : ℕ
fine = 1855979520

-- a latitude in 10^-8 degree, in that unit, rounded down: 360 degrees are 36,000,000,000 of 10^-8 degree
abbrev pub edge : ℕ → ℕ
edge e = e * fine / 36000000000

-- the 58 latitudes in that unit
unfoldable pub edges : List ℕ
edges = map edge latitudes

-- the zones of latitude to 360 degrees, of a message of either format, in the air or on the surface
abbrev pub Zoned : ℕ → Type 0
Zoned n = (n ≡ 60) ⊎ ((n ≡ 59) ⊎ ((n ≡ 240) ⊎ (n ≡ 236)))

-- r, one turn up, is a latitude over M from the south pole to the north pole
pub record Polar (M r : ℕ) : Type 0 where
  pub south : 3 * M ≤ 4 * r
  pub north : 4 * r ≤ 5 * M

-- r, one turn up, is the latitude v / M, less 360 degrees from 270 up
pub record Within (M v r : ℕ) : Type 0 where
  pub is : less360 M v ≡ sub_ℕ r M
  pub south : 3 * M ≤ 4 * r
  pub below : r < 2 * M

-- r, one turn up, is the latitude of the message of format f of a pair
pub record Paired (f : Format) (even odd r : ℕ) : Type 0 where
  pub is : pair_latitude 131072 f even odd ≡ sub_ℕ r (latitude_zones f * 131072)
  pub south : 3 * (latitude_zones f * 131072) ≤ 4 * r
  pub below : r < 2 * (latitude_zones f * 131072)
