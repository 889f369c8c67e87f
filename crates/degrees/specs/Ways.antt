-- RULES 15.1 to 15.3: a place in degrees, and the way back.
use Rattle.std.specs.Prelude.{ℕ, Bool, cond, ◌&&◌, ℤ, pos, ◌-ℤ◌, nat_lt, Result, Ok, Err, Option, Some, None}
use Rattle.std.specs.Int.Signed.{mag}
use Rattle.refusals.specs.declared.Refusal.TheVariants.{Field, Degrees}
use Rattle.positions.specs.declared.Spot.{Spot}
use Rattle.positions.specs.Whole.{modulo}
use Rattle.positions.specs.Positions.{units, pole_to_pole}
use Rattle.degrees.specs.declared.Degrees as degrees
use Rattle.degrees.specs.Value.{degrees_of, units_of}
use Rattle.refusals.specs.declared.Refusal.{Refusal}

-- a longitude taken into -2^31 up to 2^31 - 1
unfoldable pub centred : ℕ → ℤ
centred longitude = cond (nat_lt longitude 2147483648) (pos longitude) (pos longitude -ℤ pos units)

-- there: both figures, or 8 for a latitude outside its range
unfoldable pub in_degrees : Spot → Result degrees.Degrees Refusal
in_degrees s =
    cond (pole_to_pole s.latitude)
    (Ok (record { latitude = degrees_of s.latitude; longitude = degrees_of (centred s.longitude) }))
    (Err Field)

-- whether a number is in -2^31 up to 2^31 - 1: mag of one below zero is -n - 1
abbrev pub half_turn : ℤ → Bool
half_turn n = nat_lt (mag n) 2147483648

-- of the whole number of each figure, if it has one, both in range: the place, whose longitude is counted from 0; else 15
unfoldable pub place_of : Option ℤ → Option ℤ → Result Spot Refusal
place_of (Some n) (Some k) = cond (pole_to_pole n && half_turn k) (Ok (record { latitude = n; longitude = modulo k units })) (Err Degrees)
place_of (Some n) None = Err Degrees
place_of None k = Err Degrees

-- back
unfoldable pub from_degrees : degrees.Degrees → Result Spot Refusal
from_degrees d = place_of (units_of d.latitude) (units_of d.longitude)
