-- `track::step_me` meets its contract: the layout that `way_of` answers chooses the arm, and each arm is the definition's; that of the airborne layout is a coarse message's too.
use Prim.Native.Nat.{ℕ, ◌%◌, ◌^◌}
use mathlib.Core.Path.{◌≡◌, refl, sym, ap, ◌∙◌}
use mathlib.Core.Bool.{Bool, true, false, cond, false≢true}
use native.Mathlib.Omega.{arith}
use Rattle.layouts.specs.declared.surface.Surface.{Surface}
use Rattle.layouts.specs.declared.bodies.Layout.{Layout}
use Rattle.layouts.specs.declared.bodies.Layout.TheVariants as layout
use Rattle.layouts.specs.Layouts.{is_identification, is_surface, is_airborne, airborne_of}
use Rattle.layouts.specs.Velocity as velocity
use Rattle.layouts.specs.Velocity.{is_ground}
use Rattle.layouts.specs.Status.{is_status}
use Rattle.layouts.specs.Coarse.{coarse_of}
use Rattle.layouts.specs.Bodies.{layout_at, type_in, taken_as, taken_by}
use Rattle.fields.specs.Packing.{me}
use Rattle.fields.proofs.Bools.{by_test}
use Rattle.whereabouts.specs.declared.Site.{Site}
use Rattle.track.specs.declared.Groups.{Groups}
use Rattle.track.specs.declared.Track.{Track}
use Rattle.track.specs.Track.{group_track, surface_track, airborne_step, coarse_track, step_taken}
use Rattle.track.specs.Code.{way_of}
use Rattle.track.proofs.step_me.Goals as goal

-- the two layouts that are told apart
abbrev is_air : Layout → Bool
is_air layout.Identification = false
is_air layout.Surface = false
is_air layout.Airborne = true
is_air layout.Ground = false
is_air layout.Air = false
is_air layout.Status = false
is_air layout.Coarse = false
is_air layout.NotTaken = false

abbrev is_coarse : Layout → Bool
is_coarse layout.Identification = false
is_coarse layout.Surface = false
is_coarse layout.Airborne = false
is_coarse layout.Ground = false
is_coarse layout.Air = false
is_coarse layout.Status = false
is_coarse layout.Coarse = true
is_coarse layout.NotTaken = false

-- no TYPE has the layout of a coarse message
never : (type subtype : ℕ) → is_coarse (layout_at type subtype) ≡ false
never type subtype =
    let Not : Layout → Type 0 = λ (l : Layout). is_coarse l ≡ false in
    by_test Not (is_identification type) _ _ (λ _. refl)
    (λ _. by_test Not (is_surface type) _ _ (λ _. refl)
    (λ _. by_test Not (is_airborne type) _ _ (λ _. refl)
    (λ _. by_test Not (is_ground type subtype) _ _ (λ _. refl)
    (λ _. by_test Not (velocity.is_air type subtype) _ _ (λ _. refl)
    (λ _. by_test Not (is_status type subtype) _ _ (λ _. refl) (λ _. refl))))))

module _ (t : Track) (site : Site) (time n : ℕ) where
  abbrev Due : Bool → Track → Type 0
  Due coarse x = x ≡ step_taken t (taken_by coarse n) n site time

  -- the arm of the layout that was answered
  arm : (coarse : Bool) {a l : Layout} → a ≡ way_of coarse n → a ≡ l → is_air l ≡ false → Due coarse (step_taken t (taken_as l n) n site time)
  arm true p q other = absurd (false≢true (sym other ∙ ap is_air (sym q ∙ p)))
  arm false p q other = ap (λ (k : Layout). step_taken t (taken_as k n) n site time) (sym q ∙ p)

  air-arm : (coarse : Bool) {a : Layout} → a ≡ way_of coarse n → a ≡ layout.Airborne → Due coarse (cond coarse (coarse_track t (coarse_of n) n time) (airborne_step t (airborne_of n) time))
  air-arm true p q = refl
  air-arm false p q = ap (λ (k : Layout). step_taken t (taken_as k n) n site time) (sym q ∙ p)

  no_arm : (coarse : Bool) {a : Layout} → a ≡ way_of coarse n → a ≡ layout.Coarse → {x : Track} → Due coarse x
  no_arm true p q = absurd (false≢true (ap is_coarse (sym p ∙ q)))
  no_arm false p q = absurd (false≢true (sym (never (type_in n) (me 6 8 n)) ∙ ap is_coarse (sym p ∙ q)))

pub surface_track-requires : goal.surface_track-requires
surface_track-requires c = omega (arith, ap (λ (b : Surface). b.f) c.surface_of.ensures)

pub returns-in-Identification : goal.returns-in-Identification
returns-in-Identification c =
    let a = c.args in
    c.group_track.ensures ∙ ap (λ (x : Groups). group_track a.t x a.time) c.with_identification.ensures ∙ arm a.t a.site a.time (a.number % 2 ^ 56) a.coarse c.way_of.ensures c.in-Identification.is refl

pub returns-in-Surface : goal.returns-in-Surface
returns-in-Surface c =
    let a = c.args in
    let n : ℕ = a.number % 2 ^ 56 in
    c.surface_track.ensures ∙ ap (λ (b : Surface). surface_track a.t b n a.site a.time) c.surface_of.ensures ∙ arm a.t a.site a.time n a.coarse c.way_of.ensures c.in-Surface.is refl

pub returns-in-Airborne : goal.returns-in-Airborne
returns-in-Airborne c =
    let a = c.args in
    c.air_step.ensures ∙ air-arm a.t a.site a.time (a.number % 2 ^ 56) a.coarse c.way_of.ensures c.in-Airborne.is

pub returns-in-Status : goal.returns-in-Status
returns-in-Status c =
    let a = c.args in
    c.group_track-in-Status.ensures ∙ ap (λ (x : Groups). group_track a.t x a.time) c.with_status.ensures ∙ arm a.t a.site a.time (a.number % 2 ^ 56) a.coarse c.way_of.ensures c.in-Status.is refl
