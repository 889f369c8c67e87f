-- RULES 5 and 17: what the fields of a body mean, for each layout of ME; those of a velocity in a traffic service's message (CF 2 and 5) or in another.
use Rattle.std.specs.Prelude.{ℕ, Bool, cond, ◌&&◌, not, leb, eqb, Result, Ok, Err}
use Rattle.refusals.specs.declared.Refusal.TheVariants.{Field}
use Rattle.layouts.specs.declared.identification.Identification.{Identification}
use Rattle.layouts.specs.declared.surface.Surface.{Surface}
use Rattle.layouts.specs.declared.airborne.Airborne.{Airborne}
use Rattle.layouts.specs.declared.velocity.Ground.{Ground}
use Rattle.layouts.specs.declared.velocity.Air.{Air}
use Rattle.layouts.specs.declared.status.Status.{Status}
use Rattle.layouts.specs.declared.coarse.Coarse.{Coarse}
use Rattle.layouts.specs.declared.bodies.Body.{Body}
use Rattle.layouts.specs.declared.bodies.Body.TheVariants as body
use Rattle.layouts.specs.Bodies.{body_fits}
use Rattle.readings.specs.Altitude.{altitude_at}
use Rattle.readings.specs.Amounts.{speed_at, rate_at, difference_at}
use Rattle.readings.specs.Coarse.{coarse_speed_at}
use Rattle.readings.specs.Headings.{turn_of}
use Rattle.readings.specs.Movement.{movement_at}
use Rattle.readings.specs.Status.{has_a, has_c, bit_c, version_of, supplement_of}
use Rattle.characters.specs.Text.{set_at, text_at}
use Rattle.readings.specs.declared.amounts.Difference.{Difference}
use Rattle.readings.specs.declared.amounts.Difference.TheVariants as difference
use Rattle.readings.specs.declared.bodies.IdentificationReadings.{IdentificationReadings}
use Rattle.readings.specs.declared.bodies.SurfaceReadings.{SurfaceReadings}
use Rattle.readings.specs.declared.bodies.AirborneReadings.{AirborneReadings}
use Rattle.readings.specs.declared.bodies.GroundReadings.{GroundReadings}
use Rattle.readings.specs.declared.bodies.AirReadings.{AirReadings}
use Rattle.readings.specs.declared.bodies.StatusReadings.{StatusReadings}
use Rattle.readings.specs.declared.bodies.CoarseReadings.{CoarseReadings}
use Rattle.readings.specs.declared.bodies.Readings.{Readings}
use Rattle.readings.specs.declared.bodies.Readings.TheVariants as readings
use Rattle.refusals.specs.declared.Refusal.{Refusal}

abbrev pub identification_means : Identification → IdentificationReadings
identification_means b = record { set = set_at b.typecode; text = text_at b.characters }

abbrev pub surface_means : Surface → SurfaceReadings
surface_means b = record { movement = movement_at b.movement; heading = turn_of 7 b.heading }

-- RULES 2.7: of the TYPEs of this layout, 0 and 9-18 have pressure altitude and 20-22 GNSS height
abbrev pub is_gnss : ℕ → Bool
is_gnss type = leb 20 type

abbrev pub airborne_means : Airborne → AirborneReadings
airborne_means b = record { altitude = altitude_at b.altitude; gnss = is_gnss b.typecode }

-- RULES 17.5: source 002, 2.2.17.3.4: in a traffic message ME bit 36 says whether a height difference stands in bits 49 to 56, which have other fields where it is 0
abbrev pub if_there : {A : Type 0} → (unknown there : A) (source : ℕ) (traffic : Bool) → A
if_there unknown there source traffic = cond (traffic && not (eqb source 1)) unknown there

unfoldable pub height_difference : ℕ → ℕ → ℕ → Bool → Difference
height_difference source below code traffic = if_there difference.Unknown (difference_at below code) source traffic

abbrev pub ground_means : Ground → Bool → GroundReadings
ground_means b traffic = record {
  east = speed_at b.subtype b.west b.eastward;
  north = speed_at b.subtype b.south b.northward;
  rate = rate_at b.vertical.down b.vertical.rate;
  difference = height_difference b.vertical.source b.vertical.below b.vertical.difference traffic;
}

-- RULES 5.5: an airspeed has no direction
abbrev pub air_means : Air → Bool → AirReadings
air_means b traffic = record {
  heading = turn_of 10 b.heading;
  airspeed = speed_at b.subtype 0 b.airspeed;
  rate = rate_at b.vertical.down b.vertical.rate;
  difference = height_difference b.vertical.source b.vertical.below b.vertical.difference traffic;
}

abbrev pub status_means : Status → StatusReadings
status_means b = record {
  version = version_of b.version;
  supplementa = supplement_of (has_a b.version) b.supplementa;
  supplementc = supplement_of (has_c b.version) (bit_c b.subtype b.bit20);
}

-- RULES 17.8: a pressure altitude; the track status is a field, and stands beside the angle
abbrev pub coarse_means : Coarse → CoarseReadings
coarse_means b = record { altitude = altitude_at b.altitude; angle = turn_of 5 b.angle; speed = coarse_speed_at b.speed }

-- of a body whose fields fit
abbrev pub body_readings : Body → Bool → Readings
body_readings (body.Identification b) traffic = readings.Identification (identification_means b)
body_readings (body.Surface b) traffic = readings.Surface (surface_means b)
body_readings (body.Airborne b) traffic = readings.Airborne (airborne_means b)
body_readings (body.Ground b) traffic = readings.Ground (ground_means b traffic)
body_readings (body.Air b) traffic = readings.Air (air_means b traffic)
body_readings (body.Status b) traffic = readings.Status (status_means b)
body_readings (body.Coarse b) traffic = readings.Coarse (coarse_means b)

-- RULES 5.2: a field wider than its bits, or a TYPE or subtype of another layout, is refused
unfoldable pub readings_of : Body → Bool → Result Readings Refusal
readings_of b traffic = cond (body_fits b) (Ok (body_readings b traffic)) (Err Field)

-- of what the 56 bits of ME say; where that is a refusal, so are the readings
abbrev pub readings_in : Result Body Refusal → Bool → Result Readings Refusal
readings_in (Ok b) traffic = readings_of b traffic
readings_in (Err r) traffic = Err r
