-- RULES 20.3 and 20.4: a message as 28 numbers: the layout, DF, CA or CF, AA and the key; then its ME fields in the order of their bits, 15 with zeros behind them; then up to four readings. An ME by itself has zeros for what is not its own.
use Rattle.std.specs.Prelude.{ℕ, ◌+◌, ◌<◌, Bool, cond, List, [], ◌∷◌, ◌++◌, eqb, length, get_or, Result, Ok, Err}
use Rattle.entries.specs.Arrays.{filled}
use Rattle.fields.specs.Packing.{unpack}
use Rattle.layouts.specs.declared.bodies.Layout.{Layout}
use Rattle.layouts.specs.declared.bodies.Layout.TheVariants as layout
use Rattle.layouts.specs.Bodies.{layout_widths, taken_as, body_layout, body_fields}
use Rattle.readings.specs.declared.bodies.IdentificationReadings.{IdentificationReadings}
use Rattle.readings.specs.declared.bodies.SurfaceReadings.{SurfaceReadings}
use Rattle.readings.specs.declared.bodies.AirborneReadings.{AirborneReadings}
use Rattle.readings.specs.declared.bodies.GroundReadings.{GroundReadings}
use Rattle.readings.specs.declared.bodies.AirReadings.{AirReadings}
use Rattle.readings.specs.declared.bodies.StatusReadings.{StatusReadings}
use Rattle.readings.specs.declared.bodies.CoarseReadings.{CoarseReadings}
use Rattle.readings.specs.declared.bodies.Readings.{Readings}
use Rattle.readings.specs.declared.bodies.Readings.TheVariants as readings
use Rattle.readings.specs.Bodies.{readings_of, readings_in}
use Rattle.messages.specs.declared.Message.{Message}
use Rattle.messages.specs.Message.{head_fields, key_of, traffic}
use Rattle.rows.specs.declared.message.Four.{Four}
use Rattle.entries.specs.Means.{reading, bit, altitude_reading, step_reading, speed_reading, rate_reading, difference_reading, heading_reading, movement_reading, coarse_speed_reading, set_reading, text_reading, version_reading, supplement_reading}
use Rattle.layouts.specs.declared.bodies.Body.{Body}
use Rattle.refusals.specs.declared.Refusal.{Refusal}

-- ---- the readings of each layout

-- category set, text
abbrev pub identification_four : IdentificationReadings → Four
identification_four m =
    record {
      first = set_reading (Ok m.set);
      second = text_reading (Ok m.text);
      third = reading 0 0;
      fourth = reading 0 0;
    }

-- movement, heading
abbrev pub surface_four : SurfaceReadings → Four
surface_four m =
    record {
      first = movement_reading (Ok m.movement);
      second = heading_reading (Ok m.heading);
      third = reading 0 0;
      fourth = reading 0 0;
    }

-- altitude, whether that is a GNSS height, and the altitude's step
abbrev pub airborne_four : AirborneReadings → Four
airborne_four m =
    record {
      first = altitude_reading (Ok m.altitude);
      second = reading 1 (bit m.gnss);
      third = step_reading (Ok m.altitude);
      fourth = reading 0 0;
    }

-- speed to the east, to the north, vertical rate, difference
abbrev pub ground_four : GroundReadings → Four
ground_four m =
    record {
      first = speed_reading (Ok m.east);
      second = speed_reading (Ok m.north);
      third = rate_reading (Ok m.rate);
      fourth = difference_reading (Ok m.difference);
    }

-- heading, airspeed, vertical rate, difference
abbrev pub air_four : AirReadings → Four
air_four m =
    record {
      first = heading_reading (Ok m.heading);
      second = speed_reading (Ok m.airspeed);
      third = rate_reading (Ok m.rate);
      fourth = difference_reading (Ok m.difference);
    }

-- version, supplement A, supplement C
abbrev pub status_four : StatusReadings → Four
status_four m =
    record {
      first = version_reading m.version;
      second = supplement_reading m.supplementa;
      third = supplement_reading m.supplementc;
      fourth = reading 0 0;
    }

-- altitude, its step, track angle, speed
abbrev pub coarse_four : CoarseReadings → Four
coarse_four m =
    record {
      first = altitude_reading (Ok m.altitude);
      second = step_reading (Ok m.altitude);
      third = heading_reading (Ok m.angle);
      fourth = coarse_speed_reading (Ok m.speed);
    }

-- of a body that is refused
abbrev pub refused_four : Four
refused_four = record { first = reading 5 0; second = reading 5 0; third = reading 5 0; fourth = reading 5 0 }

abbrev pub four_of : Result Readings Refusal → Four
four_of (Ok (readings.Identification m)) = identification_four m
four_of (Ok (readings.Surface m)) = surface_four m
four_of (Ok (readings.Airborne m)) = airborne_four m
four_of (Ok (readings.Ground m)) = ground_four m
four_of (Ok (readings.Air m)) = air_four m
four_of (Ok (readings.Status m)) = status_four m
four_of (Ok (readings.Coarse m)) = coarse_four m
four_of (Err r) = refused_four

abbrev pub four_values : Four → List ℕ
four_values f =
    f.first.what ∷ f.first.value ∷ f.second.what ∷ f.second.value ∷
    f.third.what ∷ f.third.value ∷ f.fourth.what ∷ f.fourth.value ∷ []

-- of what the 56 bits say, in a traffic service's message or in another
abbrev pub four_in : Result Body Refusal → Bool → Four
four_in taken traffic = four_of (readings_in taken traffic)

-- ---- the whole row

abbrev pub layout_number : Layout → ℕ
layout_number layout.NotTaken = 0
layout_number layout.Identification = 1
layout_number layout.Surface = 2
layout_number layout.Airborne = 3
layout_number layout.Ground = 4
layout_number layout.Air = 5
layout_number layout.Status = 6
layout_number layout.Coarse = 7

-- where the fields begin in a row, and the readings, two entries each
abbrev pub fields_at : ℕ
fields_at = 5

abbrev pub readings_at : ℕ
readings_at = fields_at + 15

-- how many entries it has
abbrev pub row_size : ℕ
row_size = readings_at + 8

-- behind the layout what stands before ME, with the key
unfoldable pub row_of : Layout → List ℕ → List ℕ → Four → List ℕ
row_of l head fields four = layout_number l ∷ (head ++ (filled 15 fields ++ four_values four))

-- the 56 bits of ME, in a layout: cut by its widths, with what they mean; nothing before them
abbrev pub me_row : Layout → ℕ → Bool → List ℕ
me_row l n traffic = row_of l (0 ∷ 0 ∷ 0 ∷ 0 ∷ []) (unpack (layout_widths l) n) (four_in (taken_as l n) traffic)

-- what an array holds afterwards: one of another length is left as it was
abbrev pub row_into : List ℕ → List ℕ → List ℕ
row_into out row = cond (eqb (length out) row_size) row out

-- its readings go by whether it is a traffic service's message
abbrev pub message_four : Message → Four
message_four m = four_of (readings_of m.body (traffic m))

abbrev pub message_row : Message → List ℕ
message_row m = row_of (body_layout m.body) (head_fields m ++ (key_of m ∷ [])) (body_fields m.body) (message_four m)

-- of the four readings in a row none was refused
abbrev pub NoneRefused : List ℕ → Type 0
NoneRefused row = (get_or row readings_at 0 < 5) × (get_or row (readings_at + 2) 0 < 5) × (get_or row (readings_at + 4) 0 < 5) × (get_or row (readings_at + 6) 0 < 5)

-- .. nor in a list of readings
abbrev pub EachGiven : List ℕ → Type 0
EachGiven [] = Unit
EachGiven (what ∷ []) = ⊥
EachGiven (what ∷ value ∷ l) = (what < 5) × EachGiven l
