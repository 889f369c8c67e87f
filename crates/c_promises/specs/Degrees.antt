-- RULES 15.1 to 15.3: degrees as C sees them. The two figures are handed out together as one place in degrees. Each is exactly that whole number times 360 over 4,294,967,296, with no rounding anywhere. Longitude is first taken into -2^31
-- up to 2^31-1. The way back is for a double that is such a multiple within range. Different places give different doubles. Zero is positive zero.
use Rattle.std.specs.Prelude.{ℕ, ◌^◌, ◌<◌, Bool, true, false, ◌≡◌, ◌⊎◌, List, [], ◌∷◌, T, ℤ, pos, nat_abs, length, Float}
use Rattle.std.specs.Float.{nan, inf, fin, binary64}
use Rattle.std.specs.Float.Ieee.{fits}
use Rattle.entries.specs.Sent.{Sent, sent}
use Rattle.entries.specs.Twos.{twos}
use Rattle.positions.specs.declared.Spot.{Spot}
use Rattle.degrees.specs.Said.{Same}
use Rattle.addercoil.specs.Figures.{Plotted, plotted}
use Rattle.c_promises.specs.Calls.{InDegrees, FromDegrees}

-- a place as C gives it
abbrev pub spot : ℤ → ℕ → Spot
spot latitude longitude = record { latitude = latitude; longitude = longitude }

-- two doubles are exactly a place within range
abbrev pub Exact : ℤ → ℕ → Float → Float → Type 0
Exact latitude longitude x y = Same (spot latitude longitude) (record { latitude = x; longitude = y })

-- what addercoil_degrees leaves: two doubles that are exactly the place and 0, or 8 for a latitude outside its range, and then the array as it was
abbrev pub ExactOr8 : ℤ → ℕ → List Float → Plotted → Type 0
ExactOr8 latitude longitude out back =
    ((x : Float) × ((y : Float) × ((back ≡ plotted 0 (x ∷ y ∷ [])) × Exact latitude longitude x y))) ⊎ ((back ≡ plotted 8 out) × (2 ^ 30 < nat_abs latitude))

abbrev pub NothingRounded : Type 0
NothingRounded =
    (latitude : ℤ) (longitude : ℕ) → longitude < 2 ^ 32 → (out : List Float) (back : Plotted) → length out ≡ 2 → InDegrees latitude longitude out back
    → ExactOr8 latitude longitude out back

-- what addercoil_from_degrees leaves: the place that the doubles exactly are and 0, its latitude as 64 bits of two's complement; or 15 if they are none, and then the array as it was
abbrev pub PlaceOr15 : Float → Float → List ℕ → Sent → Type 0
PlaceOr15 x y out back =
    ((latitude : ℤ) × ((longitude : ℕ) × ((back ≡ sent 0 (twos latitude ∷ longitude ∷ [])) × Exact latitude longitude x y)))
    ⊎ ((back ≡ sent 15 out) × ((latitude : ℤ) (longitude : ℕ) → Exact latitude longitude x y → ⊥))

abbrev pub WayBack : Type 0
WayBack = (x y : Float) (out : List ℕ) (back : Sent) → length out ≡ 2 → FromDegrees x y out back → PlaceOr15 x y out back

-- there and back: a place in degrees, taken back, is the place
abbrev pub ThereAndBack : Type 0
ThereAndBack =
    (latitude : ℤ) (longitude : ℕ) → longitude < 2 ^ 32 → (out : List Float) (x y : Float) → InDegrees latitude longitude out (plotted 0 (x ∷ y ∷ []))
    → (numbers : List ℕ) (back : Sent) → length numbers ≡ 2 → FromDegrees x y numbers back → back ≡ sent 0 (twos latitude ∷ longitude ∷ [])

-- back and there: doubles that are taken, given out again, are the same doubles. A double is of the format's range, as every one is
abbrev pub BackAndThere : Type 0
BackAndThere =
    (x y : Float) → T (fits binary64 x) → T (fits binary64 y) → (numbers : List ℕ) (back : Sent) → FromDegrees x y numbers back → back.number ≡ 0
    → (latitude : ℤ) × ((longitude : ℕ) × ((back.array ≡ twos latitude ∷ longitude ∷ [])
    × ((out : List Float) (there : Plotted) → length out ≡ 2 → InDegrees latitude longitude out there → there ≡ plotted 0 (x ∷ y ∷ []))))

-- different places give different doubles
abbrev pub PlacesApart : Type 0
PlacesApart =
    (latitude latitude' : ℤ) (longitude longitude' : ℕ) → longitude < 2 ^ 32 → longitude' < 2 ^ 32 → (out out' : List Float) (back back' : Plotted)
    → InDegrees latitude longitude out back → InDegrees latitude' longitude' out' back' → back.number ≡ 0 → back'.number ≡ 0 → back.array ≡ back'.array
    → (latitude ≡ latitude') × (longitude ≡ longitude')

-- the place 0, 0 is positive zero twice; each figure by itself has the sign that NothingRounded says
abbrev pub PositiveZero : Type 0
PositiveZero = (out : List Float) (back : Plotted) → length out ≡ 2 → InDegrees (pos 0) 0 out back → back ≡ plotted 0 (fin false 0 (pos 0) ∷ fin false 0 (pos 0) ∷ [])

-- 15 for what is not a number, for the infinities and for negative zero, as the one figure or as the other, whatever the other is
pub data NoFigure : Float → Type 0 where
  not_a_number : NoFigure nan
  infinite : (below : Bool) → NoFigure (inf below)
  minus_zero : (e : ℤ) → NoFigure (fin true 0 e)

abbrev pub NoFigures : Type 0
NoFigures =
    (x y : Float) → NoFigure x ⊎ NoFigure y → (out : List ℕ) (back : Sent) → length out ≡ 2 → FromDegrees x y out back → back ≡ sent 15 out
