-- RULES 5.1, 6.5 and 19.3: what each reading says in the rules' terms: a number, or what the code means.
use Rattle.std.specs.Prelude.{ℕ, Bool, cond, List, ℤ, pos, Option, Some, None, Result, Ok, Err}
use Rattle.refusals.specs.Numbers.{number_of}
use Rattle.refusals.specs.Said.{Said, number, gives}
use Rattle.characters.specs.Said.{SetName, category_set_said, text_said, set_means, text_means}
use Rattle.layouts.specs.declared.velocity.Vertical.{Vertical}
use Rattle.layouts.specs.declared.bodies.Body.{Body}
use Rattle.layouts.specs.declared.bodies.Body.TheVariants as body
use Rattle.layouts.specs.Bodies.{body_fits}
use Rattle.readings.specs.Altitude.{altitude_by}
use Rattle.readings.specs.Amounts.{stepped, speeds, rates, differences}
use Rattle.readings.specs.Bodies.{is_gnss, if_there}
use Rattle.readings.specs.Coarse.{coarse_speed_by}
use Rattle.readings.specs.Headings.{turn_of}
use Rattle.readings.specs.Movement.{movement_by}
use Rattle.readings.specs.Status.{has_a, has_c, bit_c, version_by, supplement_by}
use Rattle.readings.specs.declared.altitude.Altitude.{Altitude}
use Rattle.readings.specs.declared.amounts.Speed.{Speed}
use Rattle.readings.specs.declared.amounts.Speed.TheVariants as speed
use Rattle.readings.specs.declared.amounts.Rate.{Rate}
use Rattle.readings.specs.declared.amounts.Rate.TheVariants as rate
use Rattle.readings.specs.declared.amounts.Difference.{Difference}
use Rattle.readings.specs.declared.amounts.Difference.TheVariants as difference
use Rattle.readings.specs.declared.coarse.CoarseSpeed.{CoarseSpeed}
use Rattle.readings.specs.declared.coarse.CoarseSpeed.TheVariants as coarse_speed
use Rattle.readings.specs.declared.movement.Movement.{Movement}
use Rattle.readings.specs.declared.movement.Movement.TheVariants as movement
use Rattle.readings.specs.declared.bodies.Readings.{Readings}
use Rattle.readings.specs.declared.bodies.Readings.TheVariants as readings
use Rattle.refusals.specs.declared.Refusal.{Refusal}

-- what a code can mean
pub data Amount : Type 0 where
  unknown over stopped reserved : Amount
  -- a version of the standard, and a supplement's bit
  numeral bit : ℕ → Amount
  -- knots, feet per minute, feet of a difference, 2^-32 of a turn
  figure : ℤ → Amount
  -- feet of an altitude, and its step
  in_steps : ℤ → (step : ℕ) → Amount
  -- 48ths of a knot, of a coarse message knots: a lower edge, and one with no edge above it
  edge andUp : ℕ → Amount

-- ---- each answer

abbrev pub altitude_said : Result (Option Altitude) Refusal → Said Amount
altitude_said (Ok None) = gives unknown
altitude_said (Ok (Some a)) = gives (in_steps a.feet a.step)
altitude_said (Err r) = number (number_of r)

abbrev pub speed_said : Result Speed Refusal → Said Amount
speed_said (Ok speed.Unknown) = gives unknown
speed_said (Ok (speed.Knots z)) = gives (figure z)
speed_said (Ok speed.Over) = gives over
speed_said (Err r) = number (number_of r)

abbrev pub rate_said : Result Rate Refusal → Said Amount
rate_said (Ok rate.Unknown) = gives unknown
rate_said (Ok (rate.FeetPerMinute z)) = gives (figure z)
rate_said (Ok rate.Over) = gives over
rate_said (Err r) = number (number_of r)

abbrev pub difference_said : Result Difference Refusal → Said Amount
difference_said (Ok difference.Unknown) = gives unknown
difference_said (Ok (difference.Feet z)) = gives (figure z)
difference_said (Ok difference.Over) = gives over
difference_said (Err r) = number (number_of r)

abbrev pub heading_said : Result ℕ Refusal → Said Amount
heading_said (Ok n) = gives (figure (pos n))
heading_said (Err r) = number (number_of r)

abbrev pub movement_said : Result Movement Refusal → Said Amount
movement_said (Ok movement.Unknown) = gives unknown
movement_said (Ok movement.Stopped) = gives stopped
movement_said (Ok (movement.LowerEdge n)) = gives (edge n)
movement_said (Ok (movement.AndUp n)) = gives (andUp n)
movement_said (Ok movement.Reserved) = gives reserved
movement_said (Err r) = number (number_of r)

abbrev pub coarse_speed_said : Result CoarseSpeed Refusal → Said Amount
coarse_speed_said (Ok coarse_speed.Unknown) = gives unknown
coarse_speed_said (Ok (coarse_speed.LowerEdge n)) = gives (edge n)
coarse_speed_said (Ok (coarse_speed.AndUp n)) = gives (andUp n)
coarse_speed_said (Err r) = number (number_of r)

abbrev pub version_said : Option ℕ → Said Amount
version_said (Some n) = gives (numeral n)
version_said None = gives reserved

abbrev pub supplement_said : Option ℕ → Said Amount
supplement_said None = gives unknown
supplement_said (Some n) = gives (bit n)

-- ---- and of a whole body

-- each layout's readings, each with what it says
pub data Meaning : Type 0 where
  identification : (set : Said SetName) (text : Said (List ℕ)) → Meaning
  surface : (movement heading : Said Amount) → Meaning
  -- with whether it is a GNSS height
  airborne : (altitude : Said Amount) (gnss : Bool) → Meaning
  ground : (east north rate difference : Said Amount) → Meaning
  air : (heading airspeed rate difference : Said Amount) → Meaning
  status : (version a c : Said Amount) → Meaning
  coarse : (altitude angle speed : Said Amount) → Meaning

abbrev pub readings_said : Result Readings Refusal → Said Meaning
readings_said (Ok (readings.Identification r)) = gives (identification (category_set_said (Ok r.set)) (text_said (Ok r.text)))
readings_said (Ok (readings.Surface r)) = gives (surface (movement_said (Ok r.movement)) (heading_said (Ok r.heading)))
readings_said (Ok (readings.Airborne r)) = gives (airborne (altitude_said (Ok r.altitude)) r.gnss)
readings_said (Ok (readings.Ground r)) = gives (ground (speed_said (Ok r.east)) (speed_said (Ok r.north)) (rate_said (Ok r.rate)) (difference_said (Ok r.difference)))
readings_said (Ok (readings.Air r)) = gives (air (heading_said (Ok r.heading)) (speed_said (Ok r.airspeed)) (rate_said (Ok r.rate)) (difference_said (Ok r.difference)))
readings_said (Ok (readings.Status r)) = gives (status (version_said r.version) (supplement_said r.supplementa) (supplement_said r.supplementc))
readings_said (Ok (readings.Coarse r)) = gives (coarse (altitude_said (Ok r.altitude)) (heading_said (Ok r.angle)) (coarse_speed_said (Ok r.speed)))
readings_said (Err r) = number (number_of r)

-- ---- what is due of a code that fits its bits

abbrev pub altitude_means : ℕ → Amount
altitude_means code = altitude_by unknown in_steps code

abbrev pub speed_means : ℕ → ℕ → ℕ → Amount
speed_means subtype direction code = stepped unknown figure over (speeds subtype) direction code

abbrev pub rate_means : ℕ → ℕ → Amount
rate_means sign code = stepped unknown figure over rates sign code

abbrev pub difference_means : ℕ → ℕ → Amount
difference_means sign code = stepped unknown figure over differences sign code

abbrev pub height_means : Vertical → Bool → Amount
height_means v traffic = if_there unknown (difference_means v.below v.difference) v.source traffic

abbrev pub heading_means : ℕ → ℕ → Amount
heading_means bits code = figure (pos (turn_of bits code))

abbrev pub movement_means : ℕ → Amount
movement_means c = movement_by unknown stopped edge andUp reserved c

abbrev pub coarse_speed_means : ℕ → Amount
coarse_speed_means n = coarse_speed_by unknown edge andUp n

abbrev pub version_means : ℕ → Amount
version_means v = version_by numeral reserved v

abbrev pub supplement_means : Bool → ℕ → Amount
supplement_means has n = supplement_by unknown bit has n

-- .. and of a body whose fields all do: no reading in it is a number
abbrev pub body_means : Body → Bool → Meaning
body_means (body.Identification b) traffic = identification (gives (set_means b.typecode)) (gives (text_means b.characters))
body_means (body.Surface b) traffic = surface (gives (movement_means b.movement)) (gives (heading_means 7 b.heading))
body_means (body.Airborne b) traffic = airborne (gives (altitude_means b.altitude)) (is_gnss b.typecode)
body_means (body.Ground b) traffic =
    ground (gives (speed_means b.subtype b.west b.eastward)) (gives (speed_means b.subtype b.south b.northward))
    (gives (rate_means b.vertical.down b.vertical.rate)) (gives (height_means b.vertical traffic))
body_means (body.Air b) traffic =
    air (gives (heading_means 10 b.heading)) (gives (speed_means b.subtype 0 b.airspeed))
    (gives (rate_means b.vertical.down b.vertical.rate)) (gives (height_means b.vertical traffic))
body_means (body.Status b) traffic =
    status (gives (version_means b.version))
    (gives (supplement_means (has_a b.version) b.supplementa))
    (gives (supplement_means (has_c b.version) (bit_c b.subtype b.bit20)))
body_means (body.Coarse b) traffic = coarse (gives (altitude_means b.altitude)) (gives (heading_means 5 b.angle)) (gives (coarse_speed_means b.speed))

-- .. and of a body: 8 where it does not fit; of what the 56 bits of ME say also what they are refused with
abbrev pub body_said : Body → Bool → Said Meaning
body_said b traffic = cond (body_fits b) (gives (body_means b traffic)) (number 8)

abbrev pub taken_said : Result Body Refusal → Bool → Said Meaning
taken_said (Ok b) traffic = body_said b traffic
taken_said (Err r) traffic = number (number_of r)

-- ---- a refusal stands alone

abbrev pub Given : {A : Type 0} → Said A → Type 0
Given (number n) = ⊥
Given (gives a) = Unit

abbrev pub AllGiven : Meaning → Type 0
AllGiven (identification s t) = Given s × Given t
AllGiven (surface m h) = Given m × Given h
AllGiven (airborne a g) = Given a
AllGiven (ground e n r d) = Given e × Given n × Given r × Given d
AllGiven (air h a r d) = Given h × Given a × Given r × Given d
AllGiven (status v a c) = Given v × Given a × Given c
AllGiven (coarse a t s) = Given a × Given t × Given s

-- the whole is a number, or no reading in it is
abbrev pub Alone : Said Meaning → Type 0
Alone (number n) = Unit
Alone (gives m) = AllGiven m
