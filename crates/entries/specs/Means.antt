-- RULES 20.2: a reading as two numbers: what it is, 0 unknown, 1 known, 2 over, 3 reserved, 4 stopped, 5 refused; and its value, in two's complement where it has a sign.
use Rattle.std.specs.Prelude.{ℕ, Bool, cond, Option, Some, None, Result, Ok, Err}
use Rattle.entries.specs.Twos.{twos}
use Rattle.readings.specs.declared.altitude.Altitude.{Altitude}
use Rattle.readings.specs.declared.amounts.Speed.{Speed}
use Rattle.readings.specs.declared.amounts.Speed.TheVariants as speed
use Rattle.readings.specs.declared.amounts.Rate.{Rate}
use Rattle.readings.specs.declared.amounts.Rate.TheVariants as rate
use Rattle.readings.specs.declared.amounts.Difference.{Difference}
use Rattle.readings.specs.declared.amounts.Difference.TheVariants as difference
use Rattle.readings.specs.declared.coarse.CoarseSpeed.{CoarseSpeed}
use Rattle.readings.specs.declared.coarse.CoarseSpeed.TheVariants as coarse_speed
use Rattle.readings.specs.declared.movement.Movement.{Movement}
use Rattle.readings.specs.declared.movement.Movement.TheVariants as movement
use Rattle.characters.specs.declared.CategorySet.{CategorySet}
use Rattle.characters.specs.declared.CategorySet.TheVariants as set
use Rattle.entries.specs.declared.Reading.{Reading}
use Rattle.refusals.specs.declared.Refusal.{Refusal}

abbrev pub reading : ℕ → ℕ → Reading
reading what value = record { what = what; value = value }

abbrev pub bit : Bool → ℕ
bit b = cond b 1 0

-- feet
abbrev pub altitude_reading : Result (Option Altitude) Refusal → Reading
altitude_reading (Ok None) = reading 0 0
altitude_reading (Ok (Some a)) = reading 1 (twos a.feet)
altitude_reading (Err r) = reading 5 0

-- its step, in feet
abbrev pub step_reading : Result (Option Altitude) Refusal → Reading
step_reading (Ok None) = reading 0 0
step_reading (Ok (Some a)) = reading 1 a.step
step_reading (Err r) = reading 5 0

-- knots; west and south are below zero
abbrev pub speed_reading : Result Speed Refusal → Reading
speed_reading (Ok speed.Unknown) = reading 0 0
speed_reading (Ok (speed.Knots z)) = reading 1 (twos z)
speed_reading (Ok speed.Over) = reading 2 0
speed_reading (Err r) = reading 5 0

-- feet per minute; down is below zero
abbrev pub rate_reading : Result Rate Refusal → Reading
rate_reading (Ok rate.Unknown) = reading 0 0
rate_reading (Ok (rate.FeetPerMinute z)) = reading 1 (twos z)
rate_reading (Ok rate.Over) = reading 2 0
rate_reading (Err r) = reading 5 0

-- feet, GNSS height less pressure altitude
abbrev pub difference_reading : Result Difference Refusal → Reading
difference_reading (Ok difference.Unknown) = reading 0 0
difference_reading (Ok (difference.Feet z)) = reading 1 (twos z)
difference_reading (Ok difference.Over) = reading 2 0
difference_reading (Err r) = reading 5 0

-- 2^-32 of a turn
abbrev pub heading_reading : Result ℕ Refusal → Reading
heading_reading (Ok n) = reading 1 n
heading_reading (Err r) = reading 5 0

-- 48ths of a knot, the lower edge
abbrev pub movement_reading : Result Movement Refusal → Reading
movement_reading (Ok movement.Unknown) = reading 0 0
movement_reading (Ok movement.Stopped) = reading 4 0
movement_reading (Ok (movement.LowerEdge n)) = reading 1 n
movement_reading (Ok (movement.AndUp n)) = reading 2 n
movement_reading (Ok movement.Reserved) = reading 3 0
movement_reading (Err r) = reading 5 0

-- knots, the lower edge
abbrev pub coarse_speed_reading : Result CoarseSpeed Refusal → Reading
coarse_speed_reading (Ok coarse_speed.Unknown) = reading 0 0
coarse_speed_reading (Ok (coarse_speed.LowerEdge n)) = reading 1 n
coarse_speed_reading (Ok (coarse_speed.AndUp n)) = reading 2 n
coarse_speed_reading (Err r) = reading 5 0

-- the letter, in ASCII
abbrev pub set_reading : Result (Option CategorySet) Refusal → Reading
set_reading (Ok (Some set.A)) = reading 1 65
set_reading (Ok (Some set.B)) = reading 1 66
set_reading (Ok (Some set.C)) = reading 1 67
set_reading (Ok (Some set.D)) = reading 1 68
set_reading (Ok None) = reading 0 0
set_reading (Err r) = reading 5 0

-- eight characters in ASCII as one number, the first the highest byte
abbrev pub text_reading : Result ℕ Refusal → Reading
text_reading (Ok n) = reading 1 n
text_reading (Err r) = reading 5 0

-- a version that is published, by its number; one without is reserved
abbrev pub version_reading : Option ℕ → Reading
version_reading (Some n) = reading 1 n
version_reading None = reading 3 0

-- 0 or 1, of a supplement that the version has
abbrev pub supplement_reading : Option ℕ → Reading
supplement_reading None = reading 0 0
supplement_reading (Some n) = reading 1 n
