-- Degrees, of the calls from C: what the two functions write is what the definitions give, so the laws of both ways carry over.
-- Assumes nothing.
use Rattle.std.specs.Prelude.{Result, Ok, Err}
use Prim.Native.Nat.{ℕ}
use mathlib.Core.Bool.{false, not}
use mathlib.Core.Path.{◌≡◌, refl, ap, ap₂, sym, ◌∙◌, subst}
use mathlib.Core.Logic.{inl, inr}
use mathlib.Core.List.{List, [], ◌∷◌}
use native.Mathlib.Omega.{arith}
use borrow.Author.Tests.{eq-eqb, eqb-true, not-false}
use lib.Dec.{eqb}
use lib.IntN.{ℤ, pos}
use lib.ListN.{length}
use lib.Ieee.{Float, fin}
use Rattle.refusals.specs.Numbers.{number_of}
use Rattle.fields.proofs.Bools.{by_test}
use Rattle.entries.specs.Arrays.{filled}
use Rattle.entries.specs.Sent.{Sent, sent, given, into}
use Rattle.entries.specs.Twos.{twos}
use Rattle.positions.specs.declared.Spot.{Spot}
use Rattle.positions.specs.Said.{found_said}
use Rattle.degrees.specs.declared.Degrees.{Degrees}
use Rattle.degrees.specs.Ways.{centred, in_degrees, from_degrees}
use Rattle.degrees.specs.Said.{in_degrees_said, DegreesIs, BackIs, Never}
use Rattle.degrees.proofs.Places.{told, back_told}
use Rattle.degrees.proofs.Laws as laws
use Rattle.addercoil.specs.Figures.{Plotted, plotted, figures_in, degrees_plotted, from_degrees_said}
use Rattle.addercoil.specs.Spots.{spot_said}
use Rattle.addercoil.proofs.Laws.{some_number}
use Rattle.c_promises.specs.Calls.{InDegrees, FromDegrees}
use Rattle.c_promises.specs.Degrees.{spot, ExactOr8, NothingRounded, PlaceOr15, WayBack, ThereAndBack, BackAndThere, PlacesApart, PositiveZero, NoFigure, NoFigure.not_a_number, NoFigure.infinite, NoFigure.minus_zero, NoFigures}
use Rattle.refusals.specs.declared.Refusal.{Refusal}

-- ---- each call did what the definition says

in_degrees_is : {latitude : ℤ} {longitude : ℕ} {out : List Float} {back : Plotted} → InDegrees latitude longitude out back → back ≡ degrees_plotted out latitude longitude
in_degrees_is {latitude} {longitude} {out} {back} b =
    ap (plotted back.number) (sym b.leaves)
    ∙ b.meets
    ∙ ap₂ (λ (n : ℤ) (e : ℕ). degrees_plotted b.args.1.1.0.now n e) b.north b.east
    ∙ ap (λ (l : List Float). degrees_plotted l latitude longitude) b.into

from_degrees_is : {x y : Float} {out : List ℕ} {back : Sent} → FromDegrees x y out back → back ≡ into 2 out (from_degrees_said x y)
from_degrees_is {x} {y} {out} {back} b =
    ap (sent back.number) (sym b.leaves)
    ∙ b.meets
    ∙ ap₂ (λ (n : Float) (e : Float). into 2 b.args.1.1.0.now (from_degrees_said n e)) b.north b.east
    ∙ ap (λ (l : List ℕ). into 2 l (from_degrees_said x y)) b.into

abbrev figures : Float → Float → Degrees
figures x y = record { latitude = x; longitude = y }

-- a place in an array of two entries
abbrev entries_of : Spot → List ℕ
entries_of s = twos s.latitude ∷ s.longitude ∷ []

abbrev place_sent : List ℕ → Result Spot Refusal → Sent
place_sent out (Ok s) = sent 0 (entries_of s)
place_sent out (Err r) = sent (number_of r) out

-- ---- into an array of two

module _ (latitude : ℤ) (longitude : ℕ) (out : List Float) where
  figures_are : length out ≡ 2 → degrees_plotted out latitude longitude ≡ figures_in out (in_degrees (spot latitude longitude))
  unfolding degrees_plotted
  figures_are h = rw (eq-eqb _ _ h)

module _ (x y : Float) (out : List ℕ) where
  place_by : length out ≡ 2 → (f : Result Spot Refusal) → given out (spot_said f) ≡ place_sent out f
  place_by h (Ok s) = ap (λ (n : ℕ). sent 0 (filled n (entries_of s))) h
  place_by h (Err r) = refl

  place_is : length out ≡ 2 → into 2 out (from_degrees_said x y) ≡ place_sent out (from_degrees (figures x y))
  unfolding into from_degrees_said
  place_is h = rw (eq-eqb _ _ h) (place_by h (from_degrees (figures x y)))

-- ---- a call that returned 0 was lent an array of two, and had a place

module _ (latitude : ℤ) (longitude : ℕ) (out : List Float) where
  abbrev Figured : Plotted → Type 0
  Figured p = (d : Degrees) × ((in_degrees (spot latitude longitude) ≡ Ok d) × (p.array ≡ d.latitude ∷ d.longitude ∷ []))

  by_answer : (a : Result Degrees Refusal) → in_degrees (spot latitude longitude) ≡ a → (figures_in out a).number ≡ 0 → Figured (figures_in out a)
  by_answer (Ok d) e z = (d, (e, refl))
  by_answer (Err r) e z = absurd (some_number r z)

  figured : (degrees_plotted out latitude longitude).number ≡ 0 → Figured (degrees_plotted out latitude longitude)
  unfolding degrees_plotted
  figured =
      by_test (λ (p : Plotted). p.number ≡ 0 → Figured p) (not (eqb (length out) 2)) _ _
      (λ _ z. let w : ⊥ = omega arith in absurd w)
      (λ _. by_answer (in_degrees (spot latitude longitude)) refl)

module _ (x y : Float) (out : List ℕ) where
  abbrev Found_at : Sent → Type 0
  Found_at p = (s : Spot) × ((from_degrees (figures x y) ≡ Ok s) × (p.array ≡ entries_of s))

  by_found : (f : Result Spot Refusal) → from_degrees (figures x y) ≡ f → (place_sent out f).number ≡ 0 → Found_at (place_sent out f)
  by_found (Ok s) e z = (s, (e, refl))
  by_found (Err r) e z = absurd (some_number r z)

  found_at : (into 2 out (from_degrees_said x y)).number ≡ 0 → Found_at (into 2 out (from_degrees_said x y))
  unfolding into from_degrees_said
  found_at =
      by_test (λ (p : Sent). p.number ≡ 0 → Found_at p) (not (eqb (length out) 2)) _ _
      (λ _ z. let w : ⊥ = omega arith in absurd w)
      (λ t. let h : length out ≡ 2 = eqb-true (length out) 2 (not-false _ t) in
      rw (place_by x y out h (from_degrees (figures x y))) (by_found (from_degrees (figures x y)) refl))

-- ---- the promises

pub nothing_rounded : NothingRounded
nothing_rounded latitude longitude few out back h b = by_given (in_degrees (spot latitude longitude)) refl
  where
    by_given : (a : Result Degrees Refusal) → in_degrees (spot latitude longitude) ≡ a → ExactOr8 latitude longitude out back
    by_given (Ok d) e =
        inl (d.latitude, (d.longitude, (in_degrees_is b ∙ figures_are latitude longitude out h ∙ ap (figures_in out) e, laws.exact (spot latitude longitude) d few e)))
    by_given (Err r) e =
        let q = subst (λ (a : Result Degrees Refusal). DegreesIs (spot latitude longitude) (in_degrees_said a)) e (told (spot latitude longitude) few) in
        inr (in_degrees_is b ∙ figures_are latitude longitude out h ∙ ap (figures_in out) e ∙ ap (λ (n : ℕ). plotted n out) q.0, q.1)

pub way_back : WayBack
way_back x y out back h b = by_place (from_degrees (figures x y)) refl
  where
    by_place : (f : Result Spot Refusal) → from_degrees (figures x y) ≡ f → PlaceOr15 x y out back
    by_place (Ok s) e =
        inl (s.latitude, (s.longitude, (from_degrees_is b ∙ place_is x y out h ∙ ap (place_sent out) e, subst (λ (f : Result Spot Refusal). BackIs (figures x y) (found_said f)) e (back_told (figures x y)))))
    by_place (Err r) e =
        let q = subst (λ (f : Result Spot Refusal). BackIs (figures x y) (found_said f)) e (back_told (figures x y)) in
        inr (from_degrees_is b ∙ place_is x y out h ∙ ap (place_sent out) e ∙ ap (λ (n : ℕ). sent n out) q.0, λ latitude longitude. q.1 (spot latitude longitude))

-- the two doubles that a call wrote
two_are : {x y z w : Float} → x ∷ y ∷ [] ≡ z ∷ w ∷ [] → figures z w ≡ figures x y
two_are e = cc

pub there_and_back : ThereAndBack
there_and_back latitude longitude few out x y b numbers back h c =
    let e : plotted 0 (x ∷ y ∷ []) ≡ degrees_plotted out latitude longitude = in_degrees_is b in
    let p = figured latitude longitude out (sym (ap (λ (q : Plotted). q.number) e)) in
    let d : p.0 ≡ figures x y = two_are (ap (λ (q : Plotted). q.array) e ∙ p.1.1) in
    from_degrees_is c
    ∙ place_is x y numbers h
    ∙ ap (place_sent numbers) (laws.there_back (spot latitude longitude) (figures x y) few (p.1.0 ∙ ap Ok d))

pub back_and_there : BackAndThere
back_and_there x y fx fy numbers back b z =
    let e : back ≡ into 2 numbers (from_degrees_said x y) = from_degrees_is b in
    let p = found_at x y numbers (sym (ap (λ (q : Sent). q.number) e) ∙ z) in (
      p.0.latitude,
      (
        p.0.longitude,
        (
          ap (λ (q : Sent). q.array) e ∙ p.1.1,
          λ out there h c. in_degrees_is c ∙ figures_are p.0.latitude p.0.longitude out h ∙ ap (figures_in out) (laws.back_there p.0 (figures x y) fx fy p.1.0),
        ),
      ),
    )

pub places_apart : PlacesApart
places_apart latitude latitude' longitude longitude' few few' out out' back back' b b' z z' same =
    let e = in_degrees_is b in
    let e' = in_degrees_is b' in
    let p = figured latitude longitude out (sym (ap (λ (q : Plotted). q.number) e) ∙ z) in
    let p' = figured latitude' longitude' out' (sym (ap (λ (q : Plotted). q.number) e') ∙ z') in
    let d : p'.0 ≡ p.0 = two_are (sym p.1.1 ∙ sym (ap (λ (q : Plotted). q.array) e) ∙ same ∙ ap (λ (q : Plotted). q.array) e' ∙ p'.1.1) in
    let s : spot latitude longitude ≡ spot latitude' longitude' = laws.apart (spot latitude longitude) (spot latitude' longitude') p.0 few few' p.1.0 (p'.1.0 ∙ ap Ok d) in
    (ap (λ (q : Spot). q.latitude) s, ap (λ (q : Spot). q.longitude) s)

-- ---- zero, and what is no figure

zero_is : in_degrees (spot (pos 0) 0) ≡ Ok (figures (fin false 0 (pos 0)) (fin false 0 (pos 0)))
unfolding in_degrees centred
zero_is = ap (λ (z : Float). Ok (figures z z)) (laws.worked).0

pub positive_zero : PositiveZero
positive_zero out back h b = in_degrees_is b ∙ figures_are (pos 0) 0 out h ∙ ap (figures_in out) zero_is

never : {x : Float} → NoFigure x → Never x
never not_a_number = laws.never_nan
never (infinite below) = laws.never_infinite below
never (minus_zero e) = laws.never_minus_zero e

pub no_figures : NoFigures
no_figures x y (inl n) out back h b = from_degrees_is b ∙ place_is x y out h ∙ ap (place_sent out) ((never n).north y)
no_figures x y (inr n) out back h b = from_degrees_is b ∙ place_is x y out h ∙ ap (place_sent out) ((never n).east x)
