-- What is promised of degrees is not empty, and each premise is needed: the poles and half a turn, computed; an array of another length, a longitude of more than 32 bits, and a double in a form that no double has.
-- Assumes nothing.
use Prim.Native.Nat.{ℕ}
use mathlib.Core.Bool.{false, true}
use mathlib.Core.Path.{◌≡◌, refl, ap}
use mathlib.Core.List.{List, [], ◌∷◌}
use native.Mathlib.Omega.{arith}
use lib.Dec.{T}
use lib.IntN.{pos, negsuc}
use lib.Ieee.{Float, fin, binary64, fits, round}
use Rattle.entries.specs.Sent.{sent, into}
use Rattle.entries.specs.Twos.{twos}
use Rattle.positions.specs.Whole.{modulo}
use Rattle.degrees.specs.Value.{degrees_of, units_of}
use Rattle.degrees.specs.Ways.{centred, in_degrees, place_of, from_degrees}
use Rattle.addercoil.specs.Figures.{Plotted, plotted, degrees_plotted, from_degrees_said}
use Rattle.c_promises.specs.Calls.{InDegrees}
use Rattle.c_promises.proofs.Every.{in_degrees_met}

-- two doubles that hold anything
abbrev room : List Float
room = fin false 7 (pos 0) ∷ fin false 7 (pos 0) ∷ []

-- the north pole at half a turn is 90 and -180; and back, from the south pole
pub record Computed : Type 0 where
  pub pole : degrees_plotted room (pos 1073741824) 2147483648 ≡ plotted 0 (fin false 45 (pos 1) ∷ fin true 45 (pos 2) ∷ [])
  pub back : into 2 (7 ∷ 7 ∷ []) (from_degrees_said (fin true 45 (pos 1)) (fin true 45 (pos 2))) ≡ sent 0 (twos (negsuc 1073741823) ∷ 2147483648 ∷ [])
  pub beyond : degrees_plotted room (pos 1073741825) 0 ≡ plotted 8 room
  -- an array of another length gets 1
  pub length : (degrees_plotted [] (pos 0) 0 ≡ plotted 1 []) × (into 2 [] (from_degrees_said (fin false 0 (pos 0)) (fin false 0 (pos 0))) ≡ sent 1 [])

pub computed_degrees : Computed
unfolding degrees_plotted in_degrees centred degrees_of round into from_degrees_said from_degrees place_of units_of modulo
computed_degrees = record { pole = refl; back = refl; beyond = refl; length = (refl, refl) }

-- a longitude has 32 bits: 2^32 would be 0 again
turn_again : degrees_plotted room (pos 0) 4294967296 ≡ degrees_plotted room (pos 0) 0
unfolding degrees_plotted in_degrees centred
turn_again = refl

pub longitude_needed : ((longitude longitude' : ℕ) (out out' : List Float) (x y : Plotted) → InDegrees (pos 0) longitude out x → InDegrees (pos 0) longitude' out' y → x.number ≡ 0 → y.number ≡ 0 → x.array ≡ y.array
    → longitude ≡ longitude') → ⊥
unfolding degrees_plotted in_degrees
longitude_needed h =
    let e : ◌≡◌ {A = ℕ} 4294967296 0 = h 4294967296 0 room room _ _ (in_degrees_met (pos 0) 4294967296 room) (in_degrees_met (pos 0) 0 room) refl refl (ap (λ (x : Plotted). x.array) turn_again) in
    omega arith

-- a double is of the format's range: 90 is written 45 * 2 there, and the way out gives that
pub other_form : (into 2 (7 ∷ 7 ∷ []) (from_degrees_said (fin false 90 (pos 0)) (fin false 0 (pos 0))) ≡ sent 0 (twos (pos 1073741824) ∷ 0 ∷ []))
    × (degrees_plotted room (pos 1073741824) 0 ≡ plotted 0 (fin false 45 (pos 1) ∷ fin false 0 (pos 0) ∷ [])) × (T (fits binary64 (fin false 90 (pos 0))) → ⊥)
unfolding degrees_plotted in_degrees centred degrees_of round into from_degrees_said from_degrees place_of units_of modulo fits
other_form = (refl, refl, λ t. t)
