-- RULES 14.7: the rows whose numbers have at most 20 digits, as every row in the code does: 64 bits hold no longer one.
use Rattle.std.specs.Prelude.{◌^◌, ◌<◌, ℕ, nat_abs, List, Option, Some, None, ℤ}
use Rattle.text.specs.declared.Row.{Row}
use Rattle.text.specs.Numbers.{minus, signed}

abbrev pub Sized : Option ℤ → Type 0
Sized None = Unit {0}
Sized (Some z) = nat_abs z < 10 ^ 20

pub record Fitting (r : Row) : Type 0 where
  pub heard : r.heard < 10 ^ 20
  pub latitude : Sized r.latitude
  pub longitude : Sized r.longitude
  pub altitude : Sized r.altitude
  pub step : Sized r.step

-- a figure's word
abbrev pub word : Option ℤ → List ℕ
word None = minus
word (Some z) = signed z
