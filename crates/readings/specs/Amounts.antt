-- RULES 5.5 to 5.8: speeds, vertical rates and height differences: a code with a sign bit, by one rule.
use Rattle.std.specs.Prelude.{ℕ, ◌-◌, ◌*◌, ◌^◌, cond, ◌||◌, eqb, ℤ, pos, neg_ℤ, Result, Ok, Err}
use Rattle.refusals.specs.declared.Refusal.TheVariants.{Field}
use Rattle.refusals.specs.declared.Refusal.{Refusal}
use Rattle.fields.specs.Packing.{wider}
use Rattle.readings.specs.declared.amounts.Speed.{Speed}
use Rattle.readings.specs.declared.amounts.Speed.TheVariants as speed
use Rattle.readings.specs.declared.amounts.Rate.{Rate}
use Rattle.readings.specs.declared.amounts.Rate.TheVariants as rate
use Rattle.readings.specs.declared.amounts.Difference.{Difference}
use Rattle.readings.specs.declared.amounts.Difference.TheVariants as difference

-- sign 1 is below zero: west, south, down, below
unfoldable pub signed : ℕ → ℕ → ℤ
signed sign n = cond (eqb sign 1) (neg_ℤ (pos n)) (pos n)

-- how many bits a code has, and what a step of it is
pub record Scale : Type 0 where
  pub bits : ℕ
  pub step : ℕ

-- code 0 is unknown, n is n - 1 steps, and the last code of so many bits is over
abbrev pub stepped : {A : Type 0} → (unknown : A) (value : ℤ → A) (over : A) (scale : Scale) (sign code : ℕ) → A
stepped unknown value over scale sign code =
    cond (eqb code 0) unknown
    (cond (eqb code (2 ^ scale.bits - 1)) over
    (value (signed sign (scale.step * (code - 1)))))

-- a sign or a code that is wider than its bits is refused
unfoldable pub amount : {A : Type 0} → (at : A) (scale : Scale) (sign code : ℕ) → Result A Refusal
amount at scale sign code = cond (wider 1 sign || wider scale.bits code) (Err Field) (Ok at)

-- n is n - 1 knots, times 4 in subtypes 2 and 4; 1023 is over
unfoldable pub times : ℕ → ℕ
times subtype = cond (eqb subtype 2 || eqb subtype 4) 4 1

abbrev pub speeds : ℕ → Scale
speeds subtype = record { bits = 10; step = times subtype }

unfoldable pub speed_at : ℕ → ℕ → ℕ → Speed
speed_at subtype sign code = stepped speed.Unknown speed.Knots speed.Over (speeds subtype) sign code

unfoldable pub speed_of : ℕ → ℕ → ℕ → Result Speed Refusal
speed_of subtype sign code = cond (wider 3 subtype) (Err Field) (amount (speed_at subtype sign code) (speeds subtype) sign code)

-- n is 64 (n - 1) feet per minute; 511 is over
abbrev pub rates : Scale
rates = record { bits = 9; step = 64 }

unfoldable pub rate_at : ℕ → ℕ → Rate
rate_at sign code = stepped rate.Unknown rate.FeetPerMinute rate.Over rates sign code

unfoldable pub rate_of : ℕ → ℕ → Result Rate Refusal
rate_of sign code = amount (rate_at sign code) rates sign code

-- n is 25 (n - 1) feet; 127 is over
abbrev pub differences : Scale
differences = record { bits = 7; step = 25 }

unfoldable pub difference_at : ℕ → ℕ → Difference
difference_at sign code = stepped difference.Unknown difference.Feet difference.Over differences sign code

unfoldable pub difference_of : ℕ → ℕ → Result Difference Refusal
difference_of sign code = amount (difference_at sign code) differences sign code
