-- The ways out of the calls with doubles: an array of a wrong length, both figures written one by one, a refusal, and a spot found.
-- Assumes nothing.
use Rattle.std.specs.Prelude.{Result, Ok, Err}
use Prim.Native.Nat.{ℕ}
use mathlib.Core.Path.{◌≡◌, refl, sym, ap, ◌∙◌}
use mathlib.Core.List.{List, [], ◌∷◌}
use native.Mathlib.Omega.{arith}
use borrow.Author.Tests.{eq-eqb, ne_eqb}
use lib.IntN.{ℤ}
use lib.ListN.{length, set}
use lib.Ieee.{Float}
use Rattle.refusals.specs.Numbers.{number_of}
use Rattle.refusals.specs.declared.Refusal.{Refusal}
use Rattle.degrees.specs.declared.Degrees.{Degrees}
use Rattle.degrees.specs.Ways.{in_degrees, from_degrees}
use Rattle.entries.specs.Sent.{Sent, given}
use Rattle.addercoil.specs.Spots.{spot_said}
use Rattle.addercoil.specs.Figures.{Plotted, plotted, figures_in, degrees_plotted, from_degrees_said}
use Rattle.positions.specs.declared.Spot.{Spot}

-- two doubles stored in an array of two
both_set : (out : List Float) (x y : Float) → length out ≡ 2 → set (set out 0 x) 1 y ≡ x ∷ y ∷ []
both_set [] x y h = absurd (omega arith)
both_set (a ∷ []) x y h = absurd (omega arith)
both_set (a ∷ b ∷ []) x y h = refl
both_set (a ∷ b ∷ c ∷ out) x y h = absurd (omega arith)

-- the answer a is known by the match
module _ (out : List Float) {a : Result Degrees Refusal} where
  pub figures_given : (d : Degrees) → a ≡ Ok d → length out ≡ 2 → plotted 0 (set (set out 0 d.latitude) 1 d.longitude) ≡ figures_in out a
  figures_given d m h = ap (plotted 0) (both_set out d.latitude d.longitude h) ∙ ap (figures_in out) (sym m)

  pub figures_refused : {r : Refusal} {n : ℕ} → a ≡ Err r → n ≡ number_of r → plotted n out ≡ figures_in out a
  figures_refused m e = ap (λ (n : ℕ). plotted n out) e ∙ ap (figures_in out) (sym m)

module _ (out : List Float) (latitude : ℤ) (longitude : ℕ) where
  pub degrees_wrong : (length out ≡ 2 → ⊥) → plotted 1 out ≡ degrees_plotted out latitude longitude
  unfolding degrees_plotted
  degrees_wrong h = rw (ne_eqb _ _ h)

  pub degrees_right : {p : Plotted} {a : Result Degrees Refusal} → length out ≡ 2 → a ≡ in_degrees (record { latitude = latitude; longitude = longitude }) → p ≡ figures_in out a
      → p ≡ degrees_plotted out latitude longitude
  unfolding degrees_plotted
  degrees_right h e q = q ∙ ap (figures_in out) e ∙ rw (eq-eqb _ _ h)

pub back_said : (out : List ℕ) (x y : Float) {s : Sent} {a : Result Spot Refusal} → a ≡ from_degrees (record { latitude = x; longitude = y }) → s ≡ given out (spot_said a) → s ≡ given out (from_degrees_said x y)
unfolding from_degrees_said
back_said out x y e p = p ∙ ap (λ (a : Result Spot Refusal). given out (spot_said a)) e
