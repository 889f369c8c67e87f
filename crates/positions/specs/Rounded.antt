-- RULES 7.13, 7.15, 7.17 and 7.18: what the theorems speak of: the rounded place of a message, how far apart two places are, the positions near a reference, and how far a longitude is short of a turn.
use Rattle.std.specs.Prelude.{◌≡◌, cond, ℕ, ◌+◌, ◌-◌, ◌*◌, ◌≤◌, ◌<◌, min, ℤ, pos, nat_abs, ◌+ℤ◌, ◌-ℤ◌, ◌*ℤ◌, eqb, Result, Ok, Err}
use Rattle.refusals.specs.declared.Refusal.TheVariants.{Zones}
use Rattle.positions.specs.declared.Spot.{Spot}
use Rattle.positions.specs.declared.Turn.{Turn}
use Rattle.positions.specs.declared.Turn.TheVariants.{Airborne, Surface}
use Rattle.positions.specs.declared.Format.{Format}
use Rattle.positions.specs.declared.Format.TheVariants.{Even, Odd}
use Rattle.positions.specs.declared.Size.{Size}
use Rattle.positions.specs.declared.Size.TheVariants.{Fine, Coarse}
use Rattle.positions.specs.declared.Counts.{Counts}
use Rattle.positions.specs.Whole.{modulo}
use Rattle.positions.specs.Zones.{zone_count}
use Rattle.positions.specs.Positions.{units, latitude_zones, longitude_zones, all_round, whole, rounded, rounded_turn, pair_longitude, pair_nl, near}
use Rattle.refusals.specs.declared.Refusal.{Refusal}

-- NL of the rounded latitude of the airborne message of format f
unfoldable pub rounded_nl : ℕ → Format → ℤ → ℕ
rounded_nl P f latitude = zone_count (latitude_zones f * P) (whole P (latitude_zones f) latitude)

-- its rounded place, the longitude modulo 360 degrees, rounded to 2^-32
unfoldable pub rounded_spot : ℕ → Format → Spot → Spot
rounded_spot P f s =
    let n = longitude_zones f (rounded_nl P f s.latitude) in
    record {
      latitude = rounded (latitude_zones f * P) (whole P (latitude_zones f) s.latitude);
      longitude = rounded_turn (n * P) (modulo (whole P n (pos s.longitude)) (n * P));
    }

-- the rounded place of the later message, or 10 just where the two rounded latitudes differ in NL
unfoldable pub round_trip : ℕ → Spot → Format → Result Spot Refusal
round_trip P s later =
    cond (eqb (rounded_nl P Even s.latitude) (rounded_nl P Odd s.latitude)) (Ok (rounded_spot P later s)) (Err Zones)

-- how far apart two numbers are on a circle of C
abbrev pub around : ℕ → ℕ → ℕ → ℕ
around C a b = min ((a - b) + (b - a)) (C - ((a - b) + (b - a)))

-- how far the position z / (N * P) of 360 degrees lies above the reference, over units * (N * P): a zone is units * P of it
abbrev pub beyond : ℕ → ℕ → ℤ → ℤ → ℤ
beyond P N reference z = z *ℤ pos units -ℤ reference *ℤ pos (N * P)

-- z has the count c and lies within half a zone of the reference, but not just half a zone below it
pub record Nearby (P N : ℕ) (reference : ℤ) (c : ℕ) (z : ℤ) : Type 0 where
  pub counted : modulo z P ≡ c
  pub within : 2 * nat_abs (beyond P N reference z) ≤ units * P
  pub upper : pos 2 *ℤ beyond P N reference z +ℤ pos (units * P) ≡ pos 0 → ⊥

-- the exact longitude r / M of 360 degrees is short of them by more than h halves of a unit
abbrev pub ShortBy : ℕ → ℕ → ℕ → Type 0
ShortBy h M r = 2 * (r * units) + h * M < 2 * (M * units)

-- of counts of P and at most `most` zones to 360 degrees, a count is more than u units and a half
abbrev pub Room : ℕ → ℕ → ℕ → Type 0
Room P u most = (2 * u + 1) * (most * P) < 2 * units

-- the longitude that is handed out for r counts of P, of N zones to 360 degrees: that exact one, less than a turn, is rounded to nearest and nothing else, and the
-- figure is u units short of a turn, or more
pub record Handed (P N r u longitude : ℕ) : Type 0 where
  pub within : r < N * P
  pub out : pos longitude ≡ rounded (N * P) (pos r)
  pub short : longitude + u ≤ units

-- .. in whatever spot is found
abbrev pub HandedBy : ℕ → ℕ → ℕ → ℕ → Result Spot Refusal → Type 0
HandedBy P N r u (Ok s) = Handed P N r u s.longitude
HandedBy P N r u (Err e) = Unit

-- the zones of a pair and its exact longitude, with NL that of both latitudes
abbrev pub pair_zones : ℕ → Counts → Counts → Format → ℕ
pair_zones P even odd later = longitude_zones later (pair_nl P Even even.latitude.0 odd.latitude.0)

abbrev pub pair_exact : ℕ → Counts → Counts → Format → ℕ
pair_exact P even odd later = pair_longitude P later (pair_nl P Even even.latitude.0 odd.latitude.0) even.longitude.0 odd.longitude.0

-- .. and of a single message, with NL that of the decoded latitude
abbrev pub single_zones : ℕ → Spot → Counts → Turn → Format → ℕ
single_zones P reference c k f =
    let N = all_round k (latitude_zones f) in
    all_round k (longitude_zones f (zone_count (N * P) (near P N reference.latitude c.latitude.0)))

abbrev pub single_exact : ℕ → Spot → Counts → Turn → Format → ℕ
single_exact P reference c k f =
    let n = single_zones P reference c k f in
    modulo (near P n (pos reference.longitude) c.longitude.0) (n * P)

-- so many units short of 360 degrees is the last longitude of 59 zones to a turn, as it is handed out
abbrev pub last_short : Size → Turn → ℕ
last_short Fine Airborne = 555
last_short Fine Surface = 139
last_short Coarse Airborne = 17772
last_short Coarse Surface = 4443

-- s was encoded and r came back: r is an exact place rounded to 2^-32, and that place is within half a count of s on each axis, longitude around the circle.
-- Its latitude is a whole number over N * P of 360 degrees and its longitude one over n * P, so in these differences a count is `units`
pub record HalfACount (P N n : ℕ) (s r : Spot) : Type 0 where
  pub exact_latitude : ℤ
  pub exact_longitude : ℕ
  pub out_latitude : r.latitude ≡ rounded (N * P) exact_latitude
  pub out_longitude : r.longitude ≡ rounded_turn (n * P) exact_longitude
  pub half_latitude : 2 * nat_abs (beyond P N s.latitude exact_latitude) ≤ units
  pub half_longitude : 2 * around (n * P * units) (exact_longitude * units) (s.longitude * (n * P)) ≤ units
