-- Answers at which a likely slip would show: each is computed from the definitions.
-- Assumes nothing.
use Rattle.std.specs.Prelude.{Option, Some, None, Ok, Err}
use Prim.Native.Nat.{ℕ, ◌+◌, ◌*◌, ◌^◌}
use mathlib.Core.Path.{◌≡◌, refl}
use mathlib.Core.Bool.{true, false}
use lib.IntN.{pos, negsuc}
use Rattle.refusals.specs.declared.Refusal.TheVariants.{Field}
use Rattle.layouts.specs.Coarse.{coarse_of}
use Rattle.layouts.specs.Layouts.{identification_of, surface_of, airborne_of}
use Rattle.layouts.specs.Velocity.{ground_of, air_of}
use Rattle.layouts.specs.declared.bodies.Body.{Body}
use Rattle.layouts.specs.declared.bodies.Body.TheVariants as body
use Rattle.readings.specs.Bodies.{readings_of, height_difference}
use Rattle.readings.specs.Altitude.{altitude_at, altitude_of, known, six_less, straight, five_hundreds, hundreds, gray_step}
use Rattle.readings.specs.Code.{by_hundreds}
use Rattle.readings.specs.Amounts.{speed_at, speed_of, rate_at, rate_of, difference_at, difference_of, amount, signed, times}
use Rattle.readings.specs.Coarse.{coarse_speed_at, coarse_speed_of}
use Rattle.readings.specs.Headings.{heading_of}
use Rattle.readings.specs.Movement.{movement_at, movement_of, lower_edge}
use Rattle.characters.specs.Text.{set_at, shown, text_at}
use Rattle.readings.specs.declared.amounts.Speed.TheVariants as speed
use Rattle.readings.specs.declared.amounts.Rate.TheVariants as rate
use Rattle.readings.specs.declared.amounts.Difference.{Difference}
use Rattle.readings.specs.declared.amounts.Difference.TheVariants as difference
use Rattle.readings.specs.declared.coarse.CoarseSpeed.TheVariants as coarse_speed
use Rattle.readings.specs.declared.movement.Movement.TheVariants as movement
use Rattle.readings.specs.declared.bodies.GroundReadings.{GroundReadings}
use Rattle.readings.specs.declared.bodies.Readings.TheVariants as readings
use Rattle.characters.specs.declared.CategorySet.TheVariants as set

-- an H of 5 or 6 is unknown, and is no altitude of 500 F + 100 H - 1,300
pub unknown_hundreds : (altitude_of 2688 ≡ Ok None) × (altitude_of 2176 ≡ Ok None)
unfolding altitude_of altitude_at by_hundreds six_less straight five_hundreds hundreds gray_step
unknown_hundreds = (refl, refl)

-- code 1 with either direction is zero, and no step below it; the top code is over in every subtype
pub west_one : (speed_of 1 1 1 ≡ Ok (speed.Knots (pos 0))) × (speed_of 4 0 1023 ≡ Ok speed.Over)
unfolding speed_of speed_at amount signed times
west_one = (refl, refl)

-- sign 1 is down
pub down_two : (rate_of 1 2 ≡ Ok (rate.FeetPerMinute (negsuc 63))) × (rate_of 0 2 ≡ Ok (rate.FeetPerMinute (pos 64)))
unfolding rate_of rate_at amount signed
down_two = (refl, refl)

-- sign 1 is below; code 0 is unknown with either sign, and no difference of 0
pub below_two : (difference_of 1 2 ≡ Ok (difference.Feet (negsuc 24))) × (difference_of 1 0 ≡ Ok difference.Unknown)
unfolding difference_of difference_at amount signed
below_two = (refl, refl)

-- the top code is over, and the one below it is not
pub over_at_127 : (difference_of 0 127 ≡ Ok difference.Over) × (difference_of 0 126 ≡ Ok (difference.Feet (pos 3125)))
unfolding difference_of difference_at amount signed
over_at_127 = (refl, refl)

-- a code wider than its bits is refused, and does not wrap; half the codes are half a turn
pub half_turn_lem : (heading_of 10 512 ≡ Ok 0x8000_0000) × (heading_of 10 1024 ≡ Err Field)
half_turn_lem = (refl, refl)

pub surface_half_turn : (heading_of 7 64 ≡ Ok 0x8000_0000) × (heading_of 7 128 ≡ Err Field)
surface_half_turn = (refl, refl)

-- 124 has no upper edge, and 125 is no speed
pub past_the_top : (movement_of 124 ≡ Ok (movement.AndUp 8400)) × (movement_of 125 ≡ Ok movement.Reserved)
unfolding movement_of movement_at
past_the_top = (refl, refl)

-- a coarse message's: a quarter of the codes is a quarter of a turn
pub angle_quarter : (heading_of 5 8 ≡ Ok 0x4000_0000) × (heading_of 5 32 ≡ Err Field)
angle_quarter = (refl, refl)

-- its speeds: 1 is 0 knots and no step of 32 below 16, 62 has an upper edge and 63 has none
pub coarse_speeds : (coarse_speed_of 1 ≡ Ok (coarse_speed.LowerEdge 0))
    × (coarse_speed_of 2 ≡ Ok (coarse_speed.LowerEdge 16))
    × (coarse_speed_of 3 ≡ Ok (coarse_speed.LowerEdge 48))
    × (coarse_speed_of 62 ≡ Ok (coarse_speed.LowerEdge 1936))
    × (coarse_speed_of 63 ≡ Ok (coarse_speed.AndUp 1968))
    × (coarse_speed_of 64 ≡ Err Field)
unfolding coarse_speed_of coarse_speed_at
coarse_speeds = (refl, refl, refl, refl, refl, refl)

-- ---- whole bodies, of published messages

-- 8D4840D6202CC371C32CE0576098: set A, "KLM1023 ", the first character the highest byte
pub published_identification : readings_of (body.Identification (identification_of 0x202CC371C32CE0)) false ≡ Ok (readings.Identification (record { set = Some set.A; text = 0x4B4C4D3130323320 }))
unfolding readings_of set_at text_at shown
published_identification = refl

-- 8C4841753AAB238733C8CD4020B1: 18 knots, 50/128 of a turn
pub published_surface : readings_of (body.Surface (surface_of 0x3AAB238733C8CD)) false ≡ Ok (readings.Surface (record { movement = movement.LowerEdge 864; heading = 1677721600 }))
unfolding readings_of movement_at lower_edge
published_surface = refl

-- 8D40621D58C382D690C8AC2863A7: 38,000 feet of pressure altitude, in steps of 25; TYPE 18 has that too, and TYPE 20 a GNSS height
pub published_airborne : (readings_of (body.Airborne (airborne_of 0x58C382D690C8AC)) false ≡ Ok (readings.Airborne (record { altitude = known (pos 38000) 25; gnss = false })))
    × (readings_of (body.Airborne (airborne_of (18 * 2 ^ 51))) false ≡ Ok (readings.Airborne (record { altitude = None; gnss = false })))
    × (readings_of (body.Airborne (airborne_of (20 * 2 ^ 51))) false ≡ Ok (readings.Airborne (record { altitude = None; gnss = true })))
unfolding readings_of altitude_at
published_airborne = (refl, refl, refl)

abbrev ground_with : Difference → GroundReadings
ground_with d = record {
  east = speed.Knots (negsuc 7);
  north = speed.Knots (negsuc 158);
  rate = rate.FeetPerMinute (negsuc 831);
  difference = d;
}

-- 8D485020994409940838175B284F: west 8, south 159 knots, 832 feet per minute down, 550 feet above
pub published_ground : readings_of (body.Ground (ground_of 0x99440994083817)) false ≡ Ok (readings.Ground (ground_with (difference.Feet (pos 550))))
unfolding readings_of height_difference speed_at rate_at difference_at signed times
published_ground = refl

-- 8DA05F219B06B6AF189400CBC33F: 694/1024 of a turn, 375 knots, which have no direction, 2,304 feet per minute down, difference unknown
pub published_air : readings_of (body.Air (air_of 0x9B06B6AF189400)) false ≡ Ok (readings.Air (record {
  heading = 2910846976;
  airspeed = speed.Knots (pos 375);
  rate = rate.FeetPerMinute (negsuc 2303);
  difference = difference.Unknown;
}))
unfolding readings_of height_difference speed_at rate_at difference_at signed times
published_air = refl

-- the first of the two in a traffic message: it has no height difference, and one with ME bit 36 set has the one that stands there
pub traffic_difference : (readings_of (body.Ground (ground_of 0x99440994083817)) true ≡ Ok (readings.Ground (ground_with difference.Unknown)))
    × (readings_of (body.Ground (ground_of (0x99440994083817 + 2 ^ 20))) true ≡ Ok (readings.Ground (ground_with (difference.Feet (pos 550)))))
unfolding readings_of height_difference speed_at rate_at difference_at signed times
traffic_difference = (refl, refl)

-- a coarse message: 10,000 feet in steps of 25, a quarter of a turn, and from 272 knots up to 304, whoever is said to have sent it; a station wider than its bits, which is not read, is refused
abbrev coarse_as : ℕ → Body
coarse_as station = body.Coarse (record { flag = 0; surveillance = 0; station = station; altitude = 888; status = 1; angle = 8; speed = 10; f = 0; latitude = record { 0 = 2048 }; longitude = record { 0 = 1024 } })

pub coarse_body : (body.Coarse (coarse_of 0x066F1414800400) ≡ coarse_as 3)
    × (readings_of (coarse_as 3) true ≡ Ok (readings.Coarse (record { altitude = known (pos 10000) 25; angle = 0x4000_0000; speed = coarse_speed.LowerEdge 272 })))
    × (readings_of (coarse_as 16) true ≡ Err Field)
unfolding readings_of altitude_at coarse_speed_at
coarse_body = (refl, refl, refl)

-- ---- whole bodies that are refused

-- the published airborne body with this TYPE, the published velocity with this subtype and NACv
abbrev airborne_as : ℕ → Body
airborne_as type = body.Airborne (record { typecode = type; surveillance = 0; bit8 = 0; altitude = 3128; t = 0; f = 0; latitude = record { 0 = 93000 }; longitude = record { 0 = 51372 } })

abbrev ground_as : ℕ → ℕ → Body
ground_as subtype nacv = body.Ground (record {
  typecode = 19;
  subtype = subtype;
  bit9 = 0;
  bit10 = 1;
  nacv = nacv;
  west = 1;
  eastward = 9;
  south = 1;
  northward = 160;
  vertical = record { source = 0; down = 1; rate = 14; reserved = 0; below = 0; difference = 23 };
})

-- TYPE 200 is no GNSS height, nor is TYPE 19; subtype 9 is refused once, with no value beside it, and subtype 3, which is through air, too; so is a field that is not read
pub refused_whole : (readings_of (airborne_as 200) false ≡ Err Field)
    × (readings_of (airborne_as 19) false ≡ Err Field)
    × (readings_of (ground_as 9 0) false ≡ Err Field)
    × (readings_of (ground_as 3 0) false ≡ Err Field)
    × (readings_of (ground_as 1 8) false ≡ Err Field)
unfolding readings_of
refused_whole = (refl, refl, refl, refl, refl)
