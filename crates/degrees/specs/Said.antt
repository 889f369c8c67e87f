-- RULES 15.1 to 15.3: what the answers say in the rules' terms, with no rounding in the words: the doubles that are exactly the place, the place that the doubles exactly are,
-- or a number and why.
use Rattle.std.specs.Prelude.{◌≡◌, ◌^◌, ◌<◌, ◌≤◌, ◌≢◌, unsigned_abs, Float, Result, Ok, Err}
use Rattle.refusals.specs.Numbers.{number_of}
use Rattle.refusals.specs.Said.{Said, number, gives}
use Rattle.refusals.specs.declared.Refusal.TheVariants as refusal
use Rattle.positions.specs.declared.Spot.{Spot}
use Rattle.degrees.specs.declared.Degrees.{Degrees}
use Rattle.degrees.specs.Value.{Exactly}
use Rattle.degrees.specs.Ways.{centred, in_degrees, from_degrees}
use Rattle.refusals.specs.declared.Refusal.{Refusal}

-- the place s is within range, and the two doubles d are exactly it
pub record Same (s : Spot) (d : Degrees) : Type 0 where
  pub in_latitude : unsigned_abs s.latitude ≤ 2 ^ 30
  pub in_longitude : s.longitude < 2 ^ 32
  pub latitude_is : Exactly d.latitude s.latitude
  pub longitude_is : Exactly d.longitude (centred s.longitude)

abbrev pub in_degrees_said : Result Degrees Refusal → Said Degrees
in_degrees_said (Ok d) = gives d
in_degrees_said (Err r) = number (number_of r)

-- there: the doubles that are exactly the place, and 8 where its latitude is out of range
abbrev pub DegreesIs : Spot → Said Degrees → Type 0
DegreesIs s (gives d) = Same s d
DegreesIs s (number n) = (n ≡ 8) × (2 ^ 30 < unsigned_abs s.latitude)

-- back: the place that the doubles exactly are, and 15 where there is none
abbrev pub BackIs : Degrees → Said Spot → Type 0
BackIs d (gives s) = Same s d
BackIs d (number n) = (n ≡ 15) × ((s : Spot) → Same s d → ⊥)

-- a double that is never handed out, and that earns 15 as either figure, whatever the other is
pub record Never (x : Float) : Type 0 where
  pub out : (s : Spot) (d : Degrees) → s.longitude < 2 ^ 32 → in_degrees s ≡ Ok d → (d.latitude ≢ x) × (d.longitude ≢ x)
  pub north : (y : Float) → from_degrees (record { latitude = x; longitude = y }) ≡ Err refusal.Degrees
  pub east : (y : Float) → from_degrees (record { latitude = y; longitude = x }) ≡ Err refusal.Degrees
