-- A body is read as a whole or refused as a whole, by the test of its fields.
-- Assumes nothing.
use Rattle.std.specs.Prelude.{Result, Ok, Err}
use mathlib.Core.Path.{◌≡◌, refl, sym, ap}
use mathlib.Core.Bool.{Bool, true, false, cond, not, ◌&&◌, true≢false, false≢true}
use Rattle.refusals.specs.declared.Refusal.TheVariants.{Field}
use Rattle.layouts.specs.declared.bodies.Body.{Body}
use Rattle.layouts.specs.Bodies.{body_fits}
use Rattle.readings.specs.Bodies.{body_readings, readings_of}
use Rattle.readings.specs.declared.bodies.Readings.{Readings}
use Rattle.refusals.specs.declared.Refusal.{Refusal}

abbrev chosen : Body → Bool → Bool → Result Readings Refusal
chosen b traffic t = cond t (Ok (body_readings b traffic)) (Err Field)

-- `t` is the answer of a test of the fields
pub read : (b : Body) (traffic t : Bool) → t ≡ body_fits b → not t ≡ false → readings_of b traffic ≡ Ok (body_readings b traffic)
unfolding readings_of
read b traffic true p q = ap (chosen b traffic) (sym p)
read b traffic false p q = absurd (true≢false q)

pub unread : (b : Body) (traffic t : Bool) → t ≡ body_fits b → not t ≡ true → readings_of b traffic ≡ Err Field
unfolding readings_of
unread b traffic true p q = absurd (false≢true q)
unread b traffic false p q = ap (chosen b traffic) (sym p)

-- a coarse body has no TYPE to agree: its fields alone are tested
pub always : (t : Bool) → t ≡ t && true
always true = refl
always false = refl
