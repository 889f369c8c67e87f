-- What was refused has a number of its own, 5: a reading that gives something, a reserved code too, has one below. A step is known, unknown or refused as its altitude is. By the cases.
-- Assumes nothing.
use Rattle.std.specs.Prelude.{Option, Some, None, Result, Ok, Err}
use Prim.Native.Nat.{ℕ, ◌<◌}
use mathlib.Core.Path.{◌≡◌, refl}
use native.Mathlib.Omega.{arith}
use Rattle.characters.specs.Said.{category_set_said, text_said}
use Rattle.readings.specs.Said.{Given, altitude_said, speed_said, rate_said, difference_said, heading_said, movement_said, coarse_speed_said}
use Rattle.entries.specs.Means.{altitude_reading, step_reading, speed_reading, rate_reading, difference_reading, heading_reading, movement_reading, coarse_speed_reading, set_reading, text_reading, version_reading, supplement_reading}
use Rattle.readings.specs.declared.altitude.Altitude.{Altitude}
use Rattle.readings.specs.declared.amounts.Speed.{Speed}
use Rattle.readings.specs.declared.amounts.Speed.TheVariants as speed
use Rattle.readings.specs.declared.amounts.Rate.{Rate}
use Rattle.readings.specs.declared.amounts.Rate.TheVariants as rate
use Rattle.readings.specs.declared.amounts.Difference.{Difference}
use Rattle.readings.specs.declared.amounts.Difference.TheVariants as difference
use Rattle.readings.specs.declared.coarse.CoarseSpeed.{CoarseSpeed}
use Rattle.readings.specs.declared.coarse.CoarseSpeed.TheVariants as coarse_speed
use Rattle.readings.specs.declared.movement.Movement.{Movement}
use Rattle.readings.specs.declared.movement.Movement.TheVariants as movement
use Rattle.characters.specs.declared.CategorySet.{CategorySet}
use Rattle.characters.specs.declared.CategorySet.TheVariants as set
use Rattle.refusals.specs.declared.Refusal.{Refusal}

pub altitude_given : (x : Result (Option Altitude) Refusal) → Given (altitude_said x) → (altitude_reading x).what < 5
altitude_given (Ok None) g = omega arith
altitude_given (Ok (Some a)) g = omega arith
altitude_given (Err r) g = absurd g

-- an altitude and its step are known together, and where they are not there is no step
pub unknown_no_step : (x : Result (Option Altitude) Refusal) → ((step_reading x).what ≡ (altitude_reading x).what) × (((altitude_reading x).what ≡ 1 → ⊥) → (step_reading x).value ≡ 0)
unknown_no_step (Ok None) = (refl, λ e. refl)
unknown_no_step (Ok (Some a)) = (refl, λ e. absurd (e refl))
unknown_no_step (Err r) = (refl, λ e. refl)

pub speed_given : (x : Result Speed Refusal) → Given (speed_said x) → (speed_reading x).what < 5
speed_given (Ok speed.Unknown) g = omega arith
speed_given (Ok (speed.Knots z)) g = omega arith
speed_given (Ok speed.Over) g = omega arith
speed_given (Err r) g = absurd g

pub rate_given : (x : Result Rate Refusal) → Given (rate_said x) → (rate_reading x).what < 5
rate_given (Ok rate.Unknown) g = omega arith
rate_given (Ok (rate.FeetPerMinute z)) g = omega arith
rate_given (Ok rate.Over) g = omega arith
rate_given (Err r) g = absurd g

pub difference_given : (x : Result Difference Refusal) → Given (difference_said x) → (difference_reading x).what < 5
difference_given (Ok difference.Unknown) g = omega arith
difference_given (Ok (difference.Feet z)) g = omega arith
difference_given (Ok difference.Over) g = omega arith
difference_given (Err r) g = absurd g

pub heading_given : (x : Result ℕ Refusal) → Given (heading_said x) → (heading_reading x).what < 5
heading_given (Ok n) g = omega arith
heading_given (Err r) g = absurd g

pub movement_given : (x : Result Movement Refusal) → Given (movement_said x) → (movement_reading x).what < 5
movement_given (Ok movement.Unknown) g = omega arith
movement_given (Ok movement.Stopped) g = omega arith
movement_given (Ok (movement.LowerEdge n)) g = omega arith
movement_given (Ok (movement.AndUp n)) g = omega arith
movement_given (Ok movement.Reserved) g = omega arith
movement_given (Err r) g = absurd g

pub coarse_speed_given : (x : Result CoarseSpeed Refusal) → Given (coarse_speed_said x) → (coarse_speed_reading x).what < 5
coarse_speed_given (Ok coarse_speed.Unknown) g = omega arith
coarse_speed_given (Ok (coarse_speed.LowerEdge n)) g = omega arith
coarse_speed_given (Ok (coarse_speed.AndUp n)) g = omega arith
coarse_speed_given (Err r) g = absurd g

pub set_given : (x : Result (Option CategorySet) Refusal) → Given (category_set_said x) → (set_reading x).what < 5
set_given (Ok (Some set.A)) g = omega arith
set_given (Ok (Some set.B)) g = omega arith
set_given (Ok (Some set.C)) g = omega arith
set_given (Ok (Some set.D)) g = omega arith
set_given (Ok None) g = omega arith
set_given (Err r) g = absurd g

pub text_given : (x : Result ℕ Refusal) → Given (text_said x) → (text_reading x).what < 5
text_given (Ok n) g = omega arith
text_given (Err r) g = absurd g

-- of a status none is ever refused
pub version_given : (x : Option ℕ) → (version_reading x).what < 5
version_given (Some n) = omega arith
version_given None = omega arith

pub supplement_given : (x : Option ℕ) → (supplement_reading x).what < 5
supplement_given None = omega arith
supplement_given (Some n) = omega arith
