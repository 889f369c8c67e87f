-- RULES 20.6: degrees for another language: two doubles into an array of doubles, or two doubles taken.
use Rattle.std.specs.Prelude.{ℕ, cond, not, List, [], ◌∷◌, eqb, ℤ, length, Float, Result, Ok, Err}
use Rattle.refusals.specs.Numbers.{number_of}
use Rattle.refusals.specs.Said.{Said}
use Rattle.degrees.specs.Ways.{in_degrees, from_degrees}
use Rattle.addercoil.specs.Spots.{spot_said}
use Rattle.degrees.specs.declared.Degrees.{Degrees}
use Rattle.refusals.specs.declared.Refusal.{Refusal}

-- a number, and the array of doubles that was lent, as the call leaves it
pub record Plotted : Type 0 where
  pub number : ℕ
  pub array : List Float

abbrev pub plotted : ℕ → List Float → Plotted
plotted n l = record { number = n; array = l }

-- 0 with the latitude and the longitude; a refusal's number leaves the array as it was
abbrev pub figures_in : List Float → Result Degrees Refusal → Plotted
figures_in out (Ok d) = plotted 0 (d.latitude ∷ d.longitude ∷ [])
figures_in out (Err r) = plotted (number_of r) out

-- into an array of 2 doubles; one of another length is refused with 1 and left as it was. Then 8 for the latitude
unfoldable pub degrees_plotted : List Float → ℤ → ℕ → Plotted
degrees_plotted out latitude longitude =
    cond (not (eqb (length out) 2)) (plotted 1 out) (figures_in out (in_degrees (record { latitude = latitude; longitude = longitude })))

-- the spot of two doubles, or 15
unfoldable pub from_degrees_said : Float → Float → Said (List ℕ)
from_degrees_said latitude longitude = spot_said (from_degrees (record { latitude = latitude; longitude = longitude }))
