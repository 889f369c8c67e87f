-- RULES 6.6: the altitude that a message tells and a track keeps: the statements of proofs/Altitudes.
use Rattle.std.specs.Prelude.{◌≡◌, Bool, false, cond, ◌&&◌, eqb, Option, Some, Result, Ok}
use Rattle.layouts.specs.declared.airborne.Airborne.{Airborne}
use Rattle.layouts.specs.declared.coarse.Coarse.{Coarse}
use Rattle.layouts.specs.declared.bodies.Body.{Body}
use Rattle.layouts.specs.declared.bodies.Body.TheVariants as body
use Rattle.refusals.specs.declared.Refusal.{Refusal}
use Rattle.readings.specs.Altitude.{altitude_of}
use Rattle.readings.specs.Bodies.{is_gnss, airborne_means, coarse_means}
use Rattle.readings.specs.declared.altitude.Altitude.{Altitude}
use Rattle.track.specs.declared.Track.{Track}

-- the altitude that is read from a track: GNSS height, or pressure altitude
abbrev pub altitude_in : Bool → Track → Result (Option Altitude) Refusal
altitude_in gnss t = altitude_of (cond gnss t.groups.height t.groups.pressure)

-- a message without an altitude to keep: TYPE 0 with a field of zero
abbrev pub left_out : Airborne → Bool
left_out b = eqb b.typecode 0 && eqb b.altitude 0

-- a body with an altitude to keep, which is a GNSS height or a pressure altitude
pub data Tells : Body → Bool → Option Altitude → Type 0 where
  in_the_air : {b : Airborne} → left_out b ≡ false → Tells (body.Airborne b) (is_gnss b.typecode) (airborne_means b).altitude
  coarsely : {b : Coarse} → Tells (body.Coarse b) false (coarse_means b).altitude

-- a track is held, and such an altitude, feet and step, is read from it
abbrev pub Kept : Bool → Option Altitude → Option Track → Type 0
Kept gnss a v = (t : Track) × (v ≡ Some t) × (altitude_in gnss t ≡ Ok a)
