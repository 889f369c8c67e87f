-- What is meant is in range and means itself: an ME that counts gives its group, what has no mark is none, and what a message puts in its group counts.
-- Each is a test known by the case that it stands in.
-- Assumes nothing.
use Prim.Native.Nat.{ℕ}
use mathlib.Core.Path.{◌≡◌, refl, sym, ap, ap₂, ◌∙◌}
use mathlib.Core.Bool.{Bool, true, false, cond, ◌||◌}
use mathlib.Core.List.{List}
use lib.ListN.{get_or}
use Rattle.layouts.specs.Layouts.{is_identification, is_surface}
use Rattle.layouts.specs.Velocity.{is_ground, is_air}
use Rattle.layouts.specs.Status.{is_status}
use Rattle.layouts.specs.declared.identification.Identification.{Identification}
use Rattle.layouts.specs.declared.surface.Surface.{Surface}
use Rattle.layouts.specs.declared.velocity.Ground.{Ground}
use Rattle.layouts.specs.declared.velocity.Air.{Air}
use Rattle.layouts.specs.declared.status.Status.{Status}
use Rattle.layouts.specs.declared.bodies.Body.TheVariants as body
use Rattle.layouts.specs.Bodies.{body_me, body_fits}
use Rattle.layouts.proofs.Layouts as layout
use Rattle.layouts.proofs.BothWays.{fitting, agreeing}
use Rattle.whereabouts.specs.declared.Saved.{Saved}
use Rattle.whereabouts.specs.declared.Position.{Position}
use Rattle.whereabouts.specs.Located.{no_position}
use Rattle.track.specs.declared.Groups.{Groups}
use Rattle.track.specs.declared.Track.{Track}
use Rattle.track.specs.Track.{no_saved}
use Rattle.track.specs.Groups.{identified, moving, on_surface, stating, at_pressure, at_height, positioned}
use Rattle.track.specs.Meaning.{gives_identification, gives_velocity, gives_surface, gives_status, meant_groups, meant_position, meant_saved, meant, NothingForeign}

-- ---- what counts stays, and what does not is none

module _ {A : Type 0} (counts : A → Bool) (none x : A) where
  abbrev kept : Bool → A
  kept b = cond b x none

  chosen_twice : (b : Bool) → counts x ≡ b → cond (counts (kept b)) (kept b) none ≡ kept b
  chosen_twice true e = rw e
  chosen_twice false e = one (counts none)
    where
      one : (b : Bool) → cond b none none ≡ none
      one true = refl
      one false = refl

  none_else : (b : Bool) → counts x ≡ b → counts (kept b) ≡ false → kept b ≡ none
  none_else true e f = let z : true ≡ false = sym e ∙ f in cc
  none_else false e f = refl

pub groups_twice : (g : Groups) → meant_groups (meant_groups g) ≡ meant_groups g
unfolding meant_groups
groups_twice g =
    rw (chosen_twice gives_identification 0 g.identification _ refl, chosen_twice (gives_velocity g.coarse) 0 g.velocity _ refl, chosen_twice gives_surface 0 g.surface _ refl, chosen_twice gives_status 0 g.status _ refl)

pub position_twice : (p : Position) → meant_position (meant_position p) ≡ meant_position p
unfolding meant_position
position_twice p = chosen_twice (λ (x : Position). x.known) no_position p _ refl

pub saved_twice : (v : Saved) → meant_saved (meant_saved v) ≡ meant_saved v
unfolding meant_saved
saved_twice v = chosen_twice (λ (x : Saved). x.known) no_saved v _ refl

-- so what is meant means itself
pub meant_twice : (t : Track) → meant (meant t) ≡ meant t
unfolding meant
meant_twice t =
    rw (groups_twice t.groups, position_twice t.position, saved_twice (get_or t.saved 0 no_saved), saved_twice (get_or t.saved 1 no_saved))

-- .. and has no ME of a foreign TYPE, and nothing where a mark is not set
pub meant_nothing_foreign : (t : Track) → NothingForeign (meant t)
unfolding meant meant_groups meant_position meant_saved
meant_nothing_foreign t =
    record {
      identification = none_else gives_identification 0 t.groups.identification _ refl;
      velocity = none_else (gives_velocity t.groups.coarse) 0 t.groups.velocity _ refl;
      surface = none_else gives_surface 0 t.groups.surface _ refl;
      status = none_else gives_status 0 t.groups.status _ refl;
      position = none_else (λ (x : Position). x.known) no_position t.position _ refl;
      even = none_else (λ (x : Saved). x.known) no_saved (get_or t.saved 0 no_saved) _ refl;
      odd = none_else (λ (x : Saved). x.known) no_saved (get_or t.saved 1 no_saved) _ refl;
    }

-- ---- a message's ME is of its group

pub gives_identification_lem : (b : Identification) → body_fits (body.Identification b) ≡ true → gives_identification (body_me (body.Identification b)) ≡ true
gives_identification_lem b e =
    ap (λ (l : List ℕ). is_identification (get_or l 0 0)) (layout.unpacked layout.identification b (fitting (body.Identification b) e))
    ∙ agreeing (body.Identification b) e

pub gives_surface_lem : (b : Surface) → body_fits (body.Surface b) ≡ true → gives_surface (body_me (body.Surface b)) ≡ true
gives_surface_lem b e =
    ap (λ (l : List ℕ). is_surface (get_or l 0 0)) (layout.unpacked layout.surface b (fitting (body.Surface b) e))
    ∙ agreeing (body.Surface b) e

either_way : (a : Bool) → a || true ≡ true
either_way true = refl
either_way false = refl

pub gives_ground : (b : Ground) → body_fits (body.Ground b) ≡ true → gives_velocity false (body_me (body.Ground b)) ≡ true
gives_ground b e =
    ap (λ (l : List ℕ). is_ground (get_or l 0 0) (get_or l 1 0) || is_air (get_or l 0 0) (get_or l 1 0)) (layout.unpacked layout.ground b (fitting (body.Ground b) e))
    ∙ ap (λ (x : Bool). x || is_air b.typecode b.subtype) (agreeing (body.Ground b) e)

pub gives_air : (b : Air) → body_fits (body.Air b) ≡ true → gives_velocity false (body_me (body.Air b)) ≡ true
gives_air b e =
    ap (λ (l : List ℕ). is_ground (get_or l 0 0) (get_or l 1 0) || is_air (get_or l 0 0) (get_or l 1 0)) (layout.unpacked layout.air b (fitting (body.Air b) e))
    ∙ ap (λ (x : Bool). is_ground b.typecode b.subtype || x) (agreeing (body.Air b) e)
    ∙ either_way (is_ground b.typecode b.subtype)

pub gives_status_lem : (b : Status) → body_fits (body.Status b) ≡ true → gives_status (body_me (body.Status b)) ≡ true
gives_status_lem b e =
    ap (λ (l : List ℕ). is_status (get_or l 0 0) (get_or l 1 0)) (layout.unpacked layout.status b (fitting (body.Status b) e))
    ∙ agreeing (body.Status b) e

-- ---- so groups that mean themselves do so after a message

module _ (g : Groups) (e : meant_groups g ≡ g) where
  pub identified_meant : (me : ℕ) → gives_identification me ≡ true → meant_groups (identified g me) ≡ identified g me
  unfolding meant_groups
  identified_meant me h = ap₂ identified e (ap (λ (b : Bool). cond b me 0) h)

  pub moving_meant : (coarse : Bool) (me : ℕ) → gives_velocity coarse me ≡ true → meant_groups (moving g coarse me) ≡ moving g coarse me
  unfolding meant_groups
  moving_meant coarse me h = ap₂ (λ (x : Groups). moving x coarse) e (ap (λ (b : Bool). cond b me 0) h)

  pub surface_meant : (me : ℕ) → gives_surface me ≡ true → meant_groups (on_surface g me) ≡ on_surface g me
  unfolding meant_groups
  surface_meant me h = ap₂ on_surface e (ap (λ (b : Bool). cond b me 0) h)

  pub stating_meant : (me : ℕ) → gives_status me ≡ true → meant_groups (stating g me) ≡ stating g me
  unfolding meant_groups
  stating_meant me h = ap₂ stating e (ap (λ (b : Bool). cond b me 0) h)

  pub positioned_meant : (type : ℕ) (bit8 : Bool) → meant_groups (positioned g type bit8) ≡ positioned g type bit8
  unfolding meant_groups
  positioned_meant type bit8 = ap (λ (x : Groups). positioned x type bit8) e

  pub pressure_meant : (altitude : ℕ) → meant_groups (at_pressure g altitude) ≡ at_pressure g altitude
  unfolding meant_groups
  pressure_meant altitude = ap (λ (x : Groups). at_pressure x altitude) e

  pub height_meant : (altitude : ℕ) → meant_groups (at_height g altitude) ≡ at_height g altitude
  unfolding meant_groups
  height_meant altitude = ap (λ (x : Groups). at_height x altitude) e
