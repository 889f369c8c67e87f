-- What the contracts promise in the rules' terms: whatever meets one says 8 where a code, a sign or a subtype is wider than its bits, and else what RULES 5 gives; of a body 8 where one field is,
-- or TYPE and subtype are another layout's, and else only readings that are none of them a number. The definitions of specs/Said carry each case of the answer over.
-- Assumes nothing.
use Rattle.std.specs.Prelude.{Option, Result, Ok, Err}
use Prim.Native.Nat.{ℕ, ◌-◌, ◌<◌, ◌^◌}
use mathlib.Core.Path.{◌≡◌, refl, ap, subst⁻¹, ◌∙◌}
use mathlib.Core.Bool.{Bool, true, false, cond, ◌&&◌, ◌||◌, not}
use native.Mathlib.Omega.{arith}
use borrow.Author.Tests.{lt-leb}
use lib.Dec.{leb, eqb}
use lib.IntN.{ℤ}
use contract.Lifetimes.{Lfts}
use denote.Triple.Clauses.{AtExit}
use borrow.Fn.Kinds.{Dens, res_t, ended_of}
use Rattle.refusals.specs.declared.Refusal.TheVariants.{Field}
use Rattle.refusals.specs.Said.{Said, number, gives}
use Rattle.fields.specs.Packing.{wider}
use Rattle.fields.proofs.Bools.{by_test, through}
use Rattle.characters.proofs.Promised.{set_at_says, text_at_says}
use Rattle.layouts.specs.declared.velocity.Vertical.{Vertical}
use Rattle.layouts.specs.declared.bodies.Body.{Body}
use Rattle.layouts.specs.declared.bodies.Body.TheVariants as body
use Rattle.layouts.specs.Bodies.{body_fits, taken_as}
use Rattle.layouts.proofs.BothWays.{fitting}
use Rattle.readings.specs.Altitude.{bit, hundreds, altitude_at, altitude_of}
use Rattle.readings.specs.Amounts.{Scale, stepped, amount, speeds, rates, differences, speed_at, speed_of, rate_at, rate_of, difference_at, difference_of}
use Rattle.readings.specs.Bodies.{height_difference, body_readings, readings_of, readings_in}
use Rattle.readings.specs.Coarse.{coarse_speed_at, coarse_speed_of}
use Rattle.readings.specs.Headings.{turn_of, heading_of}
use Rattle.readings.specs.Movement.{movement_at, movement_of}
use Rattle.readings.specs.Status.{is_published, has_a, has_c, bit_c, version_of, supplement_of}
use Rattle.readings.specs.Said.{Amount, unknown, over, figure, altitude_said, speed_said, rate_said, difference_said, heading_said, movement_said, coarse_speed_said, version_said, supplement_said, readings_said}
use Rattle.readings.specs.Said.{altitude_means, speed_means, rate_means, difference_means, height_means, heading_means, movement_means, coarse_speed_means, version_means, supplement_means, body_means, body_said, taken_said, Given, AllGiven, Alone}
use Rattle.readings.specs.declared.amounts.Speed.TheVariants.{Knots}
use Rattle.readings.specs.declared.amounts.Rate.TheVariants.{FeetPerMinute}
use Rattle.readings.specs.declared.amounts.Difference.TheVariants.{Feet}
use Rattle.readings.proofs.altitude.altitude_of.Kinds as altitude-of-kinds
use Rattle.readings.proofs.altitude.altitude_of.Reads as altitude-of
use Rattle.readings.proofs.altitude.altitude_at.Kinds as altitude-at-kinds
use Rattle.readings.proofs.altitude.altitude_at.Reads as altitude-at
use Rattle.readings.proofs.amounts.speed_of.Kinds as speed-of-kinds
use Rattle.readings.proofs.amounts.speed_of.Reads as speed-of
use Rattle.readings.proofs.amounts.speed_at.Kinds as speed-at-kinds
use Rattle.readings.proofs.amounts.speed_at.Reads as speed-at
use Rattle.readings.proofs.amounts.rate_of.Kinds as rate-of-kinds
use Rattle.readings.proofs.amounts.rate_of.Reads as rate-of
use Rattle.readings.proofs.amounts.rate_at.Kinds as rate-at-kinds
use Rattle.readings.proofs.amounts.rate_at.Reads as rate-at
use Rattle.readings.proofs.amounts.difference_of.Kinds as difference-of-kinds
use Rattle.readings.proofs.amounts.difference_of.Reads as difference-of
use Rattle.readings.proofs.amounts.difference_at.Kinds as difference-at-kinds
use Rattle.readings.proofs.amounts.difference_at.Reads as difference-at
use Rattle.readings.proofs.coarse.coarse_speed_of.Kinds as coarse-speed-of-kinds
use Rattle.readings.proofs.coarse.coarse_speed_of.Reads as coarse-speed-of
use Rattle.readings.proofs.coarse.coarse_speed_at.Kinds as coarse-speed-at-kinds
use Rattle.readings.proofs.coarse.coarse_speed_at.Reads as coarse-speed-at
use Rattle.readings.proofs.headings.angle_of.Kinds as angle-of-kinds
use Rattle.readings.proofs.headings.angle_of.Reads as angle-of
use Rattle.readings.proofs.headings.heading_of.Kinds as heading-of-kinds
use Rattle.readings.proofs.headings.heading_of.Reads as heading-of
use Rattle.readings.proofs.headings.surface_heading_of.Kinds as surface-heading-of-kinds
use Rattle.readings.proofs.headings.surface_heading_of.Reads as surface-heading-of
use Rattle.readings.proofs.headings.turn_of.Kinds as turn-of-kinds
use Rattle.readings.proofs.headings.turn_of.Reads as turn-of
use Rattle.readings.proofs.movement.movement_of.Kinds as movement-of-kinds
use Rattle.readings.proofs.movement.movement_of.Reads as movement-of
use Rattle.readings.proofs.movement.movement_at.Kinds as movement-at-kinds
use Rattle.readings.proofs.movement.movement_at.Reads as movement-at
use Rattle.readings.proofs.bodies.readings_in.Kinds as readings-in-kinds
use Rattle.readings.proofs.bodies.readings_in.Reads as readings-in
use Rattle.readings.proofs.bodies.readings_of.Kinds as readings-of-kinds
use Rattle.readings.proofs.bodies.readings_of.Reads as readings-of
use Rattle.refusals.specs.declared.Refusal.{Refusal}

-- ---- the definitions say so

-- of a code that fits, or of any code as if it did
pub altitude_at_says : (code : ℕ) → altitude_said (Ok (altitude_at code)) ≡ gives (altitude_means code)
unfolding altitude_at
altitude_at_says code =
    through (λ a. altitude_said (Ok a)) gives (eqb code 0) refl
    (through (λ a. altitude_said (Ok a)) gives (eqb (bit 8 code) 1) refl
    (through (λ a. altitude_said (Ok a)) gives (eqb (hundreds code) 0 || eqb (hundreds code) 5 || eqb (hundreds code) 6) refl refl))

pub altitude_says : (code : ℕ) → altitude_said (altitude_of code) ≡ cond (wider 12 code) (number 8) (gives (altitude_means code))
unfolding altitude_of
altitude_says code = through altitude_said (λ s. s) (wider 12 code) refl (altitude_at_says code)

-- one law for speeds, rates and differences
stepped_says : {A : Type 0} (said : A → Said Amount) {u o : A} (v : ℤ → A) (scale : Scale) (sign code : ℕ)
    → said u ≡ gives unknown → ((z : ℤ) → said (v z) ≡ gives (figure z)) → said o ≡ gives over
    → said (stepped u v o scale sign code) ≡ gives (stepped unknown figure over scale sign code)
stepped_says said v scale sign code eu ev eo =
    through said gives (eqb code 0) eu
    (through said gives (eqb code (2 ^ scale.bits - 1)) eo (ev _))

amount_says : {A : Type 0} (said : Result A Refusal → Said Amount) {a : A} {m : Amount} (scale : Scale) (sign code : ℕ)
    → said (Err Field) ≡ number 8 → said (Ok a) ≡ gives m
    → said (amount a scale sign code) ≡ cond (wider 1 sign || wider scale.bits code) (number 8) (gives m)
unfolding amount
amount_says said scale sign code er ea = through said (λ s. s) (wider 1 sign || wider scale.bits code) er ea

speed_at_says : (subtype direction code : ℕ) → speed_said (Ok (speed_at subtype direction code)) ≡ gives (speed_means subtype direction code)
unfolding speed_at
speed_at_says subtype direction code = stepped_says (λ a. speed_said (Ok a)) Knots (speeds subtype) direction code refl (λ z. refl) refl

pub speed_says : (subtype direction code : ℕ) → speed_said (speed_of subtype direction code)
    ≡ cond (wider 3 subtype) (number 8) (cond (wider 1 direction || wider 10 code) (number 8) (gives (speed_means subtype direction code)))
unfolding speed_of
speed_says subtype direction code =
    through speed_said (λ s. s) (wider 3 subtype) refl
    (amount_says speed_said (speeds subtype) direction code refl (speed_at_says subtype direction code))

rate_at_says : (sign code : ℕ) → rate_said (Ok (rate_at sign code)) ≡ gives (rate_means sign code)
unfolding rate_at
rate_at_says sign code = stepped_says (λ a. rate_said (Ok a)) FeetPerMinute rates sign code refl (λ z. refl) refl

pub rate_says : (sign code : ℕ) → rate_said (rate_of sign code) ≡ cond (wider 1 sign || wider 9 code) (number 8) (gives (rate_means sign code))
unfolding rate_of
rate_says sign code = amount_says rate_said rates sign code refl (rate_at_says sign code)

difference_at_says : (sign code : ℕ) → difference_said (Ok (difference_at sign code)) ≡ gives (difference_means sign code)
unfolding difference_at
difference_at_says sign code = stepped_says (λ a. difference_said (Ok a)) Feet differences sign code refl (λ z. refl) refl

pub difference_says : (sign code : ℕ) → difference_said (difference_of sign code) ≡ cond (wider 1 sign || wider 7 code) (number 8) (gives (difference_means sign code))
unfolding difference_of
difference_says sign code = amount_says difference_said differences sign code refl (difference_at_says sign code)

pub heading_says : (bits code : ℕ) → heading_said (heading_of bits code) ≡ cond (wider bits code) (number 8) (gives (heading_means bits code))
heading_says bits code = through heading_said (λ s. s) (wider bits code) refl refl

movement_at_says : (c : ℕ) → movement_said (Ok (movement_at c)) ≡ gives (movement_means c)
unfolding movement_at
movement_at_says c =
    through (λ m. movement_said (Ok m)) gives (eqb c 0) refl
    (through (λ m. movement_said (Ok m)) gives (eqb c 1) refl
    (through (λ m. movement_said (Ok m)) gives (leb c 123) refl
    (through (λ m. movement_said (Ok m)) gives (eqb c 124) refl refl)))

pub movement_says : (c : ℕ) → movement_said (movement_of c) ≡ cond (wider 7 c) (number 8) (gives (movement_means c))
unfolding movement_of
movement_says c = through movement_said (λ s. s) (wider 7 c) refl (movement_at_says c)

coarse_speed_at_says : (n : ℕ) → coarse_speed_said (Ok (coarse_speed_at n)) ≡ gives (coarse_speed_means n)
unfolding coarse_speed_at
coarse_speed_at_says n =
    through (λ s. coarse_speed_said (Ok s)) gives (eqb n 0) refl
    (through (λ s. coarse_speed_said (Ok s)) gives (eqb n 1) refl
    (through (λ s. coarse_speed_said (Ok s)) gives (leb n 62) refl refl))

pub coarse_speed_says : (n : ℕ) → coarse_speed_said (coarse_speed_of n) ≡ cond (wider 6 n) (number 8) (gives (coarse_speed_means n))
unfolding coarse_speed_of
coarse_speed_says n = through coarse_speed_said (λ s. s) (wider 6 n) refl (coarse_speed_at_says n)

version_says : (v : ℕ) → version_said (version_of v) ≡ gives (version_means v)
version_says v = through version_said gives (is_published v) refl refl

supplement_says : (has : Bool) (n : ℕ) → supplement_said (supplement_of has n) ≡ gives (supplement_means has n)
supplement_says has n = through supplement_said gives has refl refl

height_says : (v : Vertical) (traffic : Bool) → difference_said (Ok (height_difference v.source v.below v.difference traffic)) ≡ gives (height_means v traffic)
unfolding height_difference
height_says v traffic =
    through (λ d. difference_said (Ok d)) gives (traffic && not (eqb v.source 1)) refl (difference_at_says v.below v.difference)

-- ---- a code that fits is not refused

pub altitude_fits : (code : ℕ) → code < 4096 → altitude_of code ≡ Ok (altitude_at code)
unfolding altitude_of
altitude_fits code h = rw (lt-leb 4096 code h)

pub altitude_known : (code : ℕ) → code < 4096 → Given (altitude_said (altitude_of code))
altitude_known code h = subst⁻¹ Given (ap altitude_said (altitude_fits code h) ∙ altitude_at_says code) tt

-- ---- of a body

pub meaning_says : (b : Body) (traffic : Bool) → readings_said (Ok (body_readings b traffic)) ≡ gives (body_means b traffic)
meaning_says (body.Identification b) traffic = rw (set_at_says b.typecode, text_at_says b.characters)
meaning_says (body.Surface b) traffic = rw (movement_at_says b.movement)
meaning_says (body.Airborne b) traffic = rw (altitude_at_says b.altitude)
meaning_says (body.Ground b) traffic =
    rw (
      speed_at_says b.subtype b.west b.eastward,
      speed_at_says b.subtype b.south b.northward,
      rate_at_says b.vertical.down b.vertical.rate,
      height_says b.vertical traffic,
    )
meaning_says (body.Air b) traffic =
    rw (
      speed_at_says b.subtype 0 b.airspeed,
      rate_at_says b.vertical.down b.vertical.rate,
      height_says b.vertical traffic,
    )
meaning_says (body.Status b) traffic =
    rw (
      version_says b.version,
      supplement_says (has_a b.version) b.supplementa,
      supplement_says (has_c b.version) (bit_c b.subtype b.bit20),
    )
meaning_says (body.Coarse b) traffic = rw (altitude_at_says b.altitude, coarse_speed_at_says b.speed)

pub fitting_says : (b : Body) (traffic : Bool) → body_fits b ≡ true → readings_said (Ok (body_readings b traffic)) ≡ gives (body_means b traffic)
fitting_says b traffic e = meaning_says b traffic

pub readings_say : (b : Body) (traffic : Bool) → readings_said (readings_of b traffic) ≡ body_said b traffic
unfolding readings_of
readings_say b traffic = through readings_said (λ s. s) (body_fits b) (meaning_says b traffic) refl

taken_says : (t : Result Body Refusal) (traffic : Bool) → readings_said (readings_in t traffic) ≡ taken_said t traffic
taken_says (Ok b) traffic = readings_say b traffic
taken_says (Err r) traffic = refl

-- ---- a refusal stands alone: with no value beside it

all_given : (b : Body) (traffic : Bool) → AllGiven (body_means b traffic)
all_given (body.Identification b) traffic = (tt, tt)
all_given (body.Surface b) traffic = (tt, tt)
all_given (body.Airborne b) traffic = tt
all_given (body.Ground b) traffic = (tt, tt, tt, tt)
all_given (body.Air b) traffic = (tt, tt, tt, tt)
all_given (body.Status b) traffic = (tt, tt, tt)
all_given (body.Coarse b) traffic = (tt, tt, tt)

-- of a body that fits every reading gives something
pub fitting_given : (b : Body) (traffic : Bool) → body_fits b ≡ true → Alone (readings_said (Ok (body_readings b traffic)))
fitting_given b traffic e = subst⁻¹ Alone (fitting_says b traffic e) (all_given b traffic)

pub refused_alone : (b : Body) (traffic : Bool) → Alone (readings_said (readings_of b traffic))
refused_alone b traffic = subst⁻¹ Alone (readings_say b traffic) (by_test Alone (body_fits b) _ _ (λ _. all_given b traffic) (λ _. tt))

-- ---- and so does whatever meets a contract

pub altitude_of_promised : (κs : Lfts 0) (args : Dens κs altitude-of-kinds.ps) (x : (res_t altitude-of-kinds.r κs).Denot)
    (left : AtExit (ended_of 0 altitude-of-kinds.ps altitude-of-kinds.r) κs) → altitude-of.Post κs args x left
    → altitude_said x ≡ cond (wider 12 args.0) (number 8) (gives (altitude_means args.0))
altitude_of_promised κs args x left p = ap altitude_said p ∙ altitude_says args.0

pub speed_of_promised : (κs : Lfts 0) (args : Dens κs speed-of-kinds.ps) (x : (res_t speed-of-kinds.r κs).Denot)
    (left : AtExit (ended_of 0 speed-of-kinds.ps speed-of-kinds.r) κs) → speed-of.Post κs args x left
    → speed_said x ≡ cond (wider 3 args.0) (number 8) (cond (wider 1 args.1.0 || wider 10 args.1.1.0) (number 8) (gives (speed_means args.0 args.1.0 args.1.1.0)))
speed_of_promised κs args x left p = ap speed_said p ∙ speed_says args.0 args.1.0 args.1.1.0

pub rate_of_promised : (κs : Lfts 0) (args : Dens κs rate-of-kinds.ps) (x : (res_t rate-of-kinds.r κs).Denot)
    (left : AtExit (ended_of 0 rate-of-kinds.ps rate-of-kinds.r) κs) → rate-of.Post κs args x left
    → rate_said x ≡ cond (wider 1 args.0 || wider 9 args.1.0) (number 8) (gives (rate_means args.0 args.1.0))
rate_of_promised κs args x left p = ap rate_said p ∙ rate_says args.0 args.1.0

pub difference_of_promised : (κs : Lfts 0) (args : Dens κs difference-of-kinds.ps) (x : (res_t difference-of-kinds.r κs).Denot)
    (left : AtExit (ended_of 0 difference-of-kinds.ps difference-of-kinds.r) κs) → difference-of.Post κs args x left
    → difference_said x ≡ cond (wider 1 args.0 || wider 7 args.1.0) (number 8) (gives (difference_means args.0 args.1.0))
difference_of_promised κs args x left p = ap difference_said p ∙ difference_says args.0 args.1.0

pub heading_of_promised : (κs : Lfts 0) (args : Dens κs heading-of-kinds.ps) (x : (res_t heading-of-kinds.r κs).Denot)
    (left : AtExit (ended_of 0 heading-of-kinds.ps heading-of-kinds.r) κs) → heading-of.Post κs args x left
    → heading_said x ≡ cond (wider 10 args.0) (number 8) (gives (heading_means 10 args.0))
heading_of_promised κs args x left p = ap heading_said p ∙ heading_says 10 args.0

pub surface_heading_of_promised : (κs : Lfts 0) (args : Dens κs surface-heading-of-kinds.ps) (x : (res_t surface-heading-of-kinds.r κs).Denot)
    (left : AtExit (ended_of 0 surface-heading-of-kinds.ps surface-heading-of-kinds.r) κs) → surface-heading-of.Post κs args x left
    → heading_said x ≡ cond (wider 7 args.0) (number 8) (gives (heading_means 7 args.0))
surface_heading_of_promised κs args x left p = ap heading_said p ∙ heading_says 7 args.0

pub movement_of_promised : (κs : Lfts 0) (args : Dens κs movement-of-kinds.ps) (x : (res_t movement-of-kinds.r κs).Denot)
    (left : AtExit (ended_of 0 movement-of-kinds.ps movement-of-kinds.r) κs) → movement-of.Post κs args x left
    → movement_said x ≡ cond (wider 7 args.0) (number 8) (gives (movement_means args.0))
movement_of_promised κs args x left p = ap movement_said p ∙ movement_says args.0

pub angle_of_promised : (κs : Lfts 0) (args : Dens κs angle-of-kinds.ps) (x : (res_t angle-of-kinds.r κs).Denot)
    (left : AtExit (ended_of 0 angle-of-kinds.ps angle-of-kinds.r) κs) → angle-of.Post κs args x left
    → heading_said x ≡ cond (wider 5 args.0) (number 8) (gives (heading_means 5 args.0))
angle_of_promised κs args x left p = ap heading_said p ∙ heading_says 5 args.0

pub coarse_speed_of_promised : (κs : Lfts 0) (args : Dens κs coarse-speed-of-kinds.ps) (x : (res_t coarse-speed-of-kinds.r κs).Denot)
    (left : AtExit (ended_of 0 coarse-speed-of-kinds.ps coarse-speed-of-kinds.r) κs) → coarse-speed-of.Post κs args x left
    → coarse_speed_said x ≡ cond (wider 6 args.0) (number 8) (gives (coarse_speed_means args.0))
coarse_speed_of_promised κs args x left p = ap coarse_speed_said p ∙ coarse_speed_says args.0

-- of the functions that read a code of its bits, which those of a body call

pub altitude_at_promised : (κs : Lfts 0) (args : Dens κs altitude-at-kinds.ps) (x : (res_t altitude-at-kinds.r κs).Denot)
    (left : AtExit (ended_of 0 altitude-at-kinds.ps altitude-at-kinds.r) κs) → altitude-at.Post κs args x left
    → altitude_said (Ok x) ≡ gives (altitude_means args.0)
altitude_at_promised κs args x left p = ap (λ s. altitude_said (Ok s)) p ∙ altitude_at_says args.0

pub speed_at_promised : (κs : Lfts 0) (args : Dens κs speed-at-kinds.ps) (x : (res_t speed-at-kinds.r κs).Denot)
    (left : AtExit (ended_of 0 speed-at-kinds.ps speed-at-kinds.r) κs) → speed-at.Post κs args x left
    → speed_said (Ok x) ≡ gives (speed_means args.0 args.1.0 args.1.1.0)
speed_at_promised κs args x left p = ap (λ s. speed_said (Ok s)) p ∙ speed_at_says args.0 args.1.0 args.1.1.0

pub rate_at_promised : (κs : Lfts 0) (args : Dens κs rate-at-kinds.ps) (x : (res_t rate-at-kinds.r κs).Denot)
    (left : AtExit (ended_of 0 rate-at-kinds.ps rate-at-kinds.r) κs) → rate-at.Post κs args x left
    → rate_said (Ok x) ≡ gives (rate_means args.0 args.1.0)
rate_at_promised κs args x left p = ap (λ s. rate_said (Ok s)) p ∙ rate_at_says args.0 args.1.0

pub difference_at_promised : (κs : Lfts 0) (args : Dens κs difference-at-kinds.ps) (x : (res_t difference-at-kinds.r κs).Denot)
    (left : AtExit (ended_of 0 difference-at-kinds.ps difference-at-kinds.r) κs) → difference-at.Post κs args x left
    → difference_said (Ok x) ≡ gives (difference_means args.0 args.1.0)
difference_at_promised κs args x left p = ap (λ s. difference_said (Ok s)) p ∙ difference_at_says args.0 args.1.0

pub turn_of_promised : (κs : Lfts 0) (args : Dens κs turn-of-kinds.ps) (x : (res_t turn-of-kinds.r κs).Denot)
    (left : AtExit (ended_of 0 turn-of-kinds.ps turn-of-kinds.r) κs) → turn-of.Post κs args x left
    → heading_said (Ok x) ≡ gives (heading_means args.0 args.1.0)
turn_of_promised κs args x left p = ap (λ s. heading_said (Ok s)) p

pub movement_at_promised : (κs : Lfts 0) (args : Dens κs movement-at-kinds.ps) (x : (res_t movement-at-kinds.r κs).Denot)
    (left : AtExit (ended_of 0 movement-at-kinds.ps movement-at-kinds.r) κs) → movement-at.Post κs args x left
    → movement_said (Ok x) ≡ gives (movement_means args.0)
movement_at_promised κs args x left p = ap (λ s. movement_said (Ok s)) p ∙ movement_at_says args.0

pub coarse_speed_at_promised : (κs : Lfts 0) (args : Dens κs coarse-speed-at-kinds.ps) (x : (res_t coarse-speed-at-kinds.r κs).Denot)
    (left : AtExit (ended_of 0 coarse-speed-at-kinds.ps coarse-speed-at-kinds.r) κs) → coarse-speed-at.Post κs args x left
    → coarse_speed_said (Ok x) ≡ gives (coarse_speed_means args.0)
coarse_speed_at_promised κs args x left p = ap (λ s. coarse_speed_said (Ok s)) p ∙ coarse_speed_at_says args.0

pub readings_of_promised : (κs : Lfts 0) (args : Dens κs readings-of-kinds.ps) (x : (res_t readings-of-kinds.r κs).Denot)
    (left : AtExit (ended_of 0 readings-of-kinds.ps readings-of-kinds.r) κs) → readings-of.Post κs args x left
    → readings_said x ≡ body_said args.0 args.1.0
readings_of_promised κs args x left p = ap readings_said p ∙ readings_say args.0 args.1.0

pub readings_in_promised : (κs : Lfts 0) (args : Dens κs readings-in-kinds.ps) (x : (res_t readings-in-kinds.r κs).Denot)
    (left : AtExit (ended_of 0 readings-in-kinds.ps readings-in-kinds.r) κs) → readings-in.Post κs args x left
    → readings_said x ≡ taken_said (taken_as args.0 args.1.0) args.1.1.0
readings_in_promised κs args x left p = ap readings_said p ∙ taken_says (taken_as args.0 args.1.0) args.1.1.0
