-- 'On the ground' is exact: it is what the last position message says. One from the air saves an encoded position, one from the ground clears both and leaves its ME, and every other message leaves all three.
-- Assumes nothing.
use Prim.Native.Nat.{ℕ, zero, suc, ◌<◌}
use native.Mathlib.Omega.{arith}
use mathlib.Core.Path.{◌≡◌, refl, sym, ap}
use mathlib.Core.Bool.{Bool, true, false, ◌||◌}
use mathlib.Core.List.{List, [], ◌∷◌}
use lib.Dec.{eqb}
use lib.ListN.{length, get_or, set}
use Rattle.layouts.specs.declared.identification.Identification.{Identification}
use Rattle.layouts.specs.declared.surface.Surface.{Surface}
use Rattle.layouts.specs.declared.airborne.Airborne.{Airborne}
use Rattle.layouts.specs.declared.coarse.Coarse.{Coarse}
use Rattle.layouts.specs.declared.velocity.Ground.{Ground}
use Rattle.layouts.specs.declared.velocity.Air.{Air}
use Rattle.layouts.specs.declared.status.Status.{Status}
use Rattle.layouts.specs.declared.bodies.Body.TheVariants as body
use Rattle.layouts.specs.declared.bodies.Layout.{Layout}
use Rattle.layouts.specs.Bodies.{body_me, body_fits}
use Rattle.layouts.proofs.BothWays.{read_back, fields_read}
use Rattle.whereabouts.specs.declared.Saved.{Saved}
use Rattle.whereabouts.specs.declared.Site.{Site}
use Rattle.track.specs.declared.Track.{Track}
use Rattle.track.specs.Track.{no_saved, counts_in, coarse_counts, group_track, saved_track, surface_track, step_body}
use Rattle.rows.specs.Rows.{row_of, me_row}
use Rattle.track_rows.specs.Shown.{on_ground, ground_of}

or-true : (a : Bool) → a || true ≡ true
or-true true = refl
or-true false = refl

-- of two saved positions one is known after it was saved
saved_known : (l : List Saved) (f : ℕ) (s : Saved) → s.known ≡ true → f < 2 → length l ≡ 2
    → ((get_or (set l f s) 0 no_saved).known || (get_or (set l f s) 1 no_saved).known) ≡ true
saved_known [] f s k h e = cc
saved_known (x ∷ []) f s k h e = cc
saved_known (x ∷ y ∷ z ∷ l) f s k h e = cc
saved_known (x ∷ y ∷ []) zero s k h e = rw k
saved_known (x ∷ y ∷ []) (suc zero) s k h e = rw k (or-true x.known)
saved_known (x ∷ y ∷ []) (suc (suc f)) s k h e = let z : ⊥ = omega arith in absurd z

module _ (t : Track) (site : Site) (time : ℕ) (traffic : Bool) where
  pub airborne_is_off : (b : Airborne) (me : ℕ) → eqb b.typecode 0 ≡ false → b.f < 2 → length t.saved ≡ 2
      → ground_of traffic (step_body t (body.Airborne b) me site time) ≡ 1 ∷ 0 ∷ []
  unfolding saved_track on_ground
  airborne_is_off b me e f two = simp (e, saved_known t.saved b.f (record { known = true; coarse = false; counts = counts_in b; time = time }) refl f two) refl

  pub coarse_is_off : (b : Coarse) (me : ℕ) → b.f < 2 → length t.saved ≡ 2 → ground_of traffic (step_body t (body.Coarse b) me site time) ≡ 1 ∷ 0 ∷ []
  unfolding saved_track on_ground
  coarse_is_off b me f two = simp (saved_known t.saved b.f (record { known = true; coarse = true; counts = coarse_counts b; time = time }) refl f two) refl

  pub surface_is_on : (b : Surface) → body_fits (body.Surface b) ≡ true
      → ground_of traffic (step_body t (body.Surface b) (body_me (body.Surface b)) site time) ≡ 1 ∷ 1 ∷ []
  unfolding surface_track on_ground row_of
  surface_is_on b e =
      let n : ℕ = body_me (body.Surface b) in
      ap (λ (l : Layout). on_ground false (me_row l n traffic)) (sym (fields_read false n (body.Surface b) (read_back (body.Surface b) e)).0)

  pub no_position_leaves_it : (b : Airborne) (me : ℕ) → eqb b.typecode 0 ≡ true
      → ground_of traffic (step_body t (body.Airborne b) me site time) ≡ ground_of traffic t
  unfolding group_track
  no_position_leaves_it b me e = rw e

  pub identification_leaves_it : (b : Identification) (me : ℕ) → ground_of traffic (step_body t (body.Identification b) me site time) ≡ ground_of traffic t
  unfolding group_track
  identification_leaves_it b me = refl

  pub ground_leaves_it : (b : Ground) (me : ℕ) → ground_of traffic (step_body t (body.Ground b) me site time) ≡ ground_of traffic t
  unfolding group_track
  ground_leaves_it b me = refl

  pub air_leaves_it : (b : Air) (me : ℕ) → ground_of traffic (step_body t (body.Air b) me site time) ≡ ground_of traffic t
  unfolding group_track
  air_leaves_it b me = refl

  pub status_leaves_it : (b : Status) (me : ℕ) → ground_of traffic (step_body t (body.Status b) me site time) ≡ ground_of traffic t
  unfolding group_track
  status_leaves_it b me = refl
