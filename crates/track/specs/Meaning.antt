-- RULES 9.11: what a track means whose values may be any: an ME counts if its TYPE is of its group, and otherwise none was heard; what has no mark is none.
use Rattle.std.specs.Prelude.{ℕ, ◌≡◌, [], ◌∷◌, Bool, false, cond, ◌||◌, get_or}
use Rattle.fields.specs.Packing.{me}
use Rattle.layouts.specs.Layouts.{is_identification, is_surface}
use Rattle.layouts.specs.Velocity.{is_ground, is_air}
use Rattle.layouts.specs.Status.{is_status}
use Rattle.whereabouts.specs.declared.Saved.{Saved}
use Rattle.whereabouts.specs.declared.Position.{Position}
use Rattle.whereabouts.specs.Located.{no_position}
use Rattle.track.specs.declared.Groups.{Groups}
use Rattle.track.specs.declared.Track.{Track}
use Rattle.track.specs.Track.{no_saved}

-- ---- whether an ME gives a group: by its TYPE, bits 1-5, and of velocity and status by its subtype, bits 6-8; a coarse message is a velocity whatever its bits

abbrev pub gives_identification : ℕ → Bool
gives_identification n = is_identification (me 1 5 n)

abbrev pub gives_velocity : Bool → ℕ → Bool
gives_velocity coarse n = coarse || (is_ground (me 1 5 n) (me 6 8 n) || is_air (me 1 5 n) (me 6 8 n))

abbrev pub gives_surface : ℕ → Bool
gives_surface n = is_surface (me 1 5 n)

abbrev pub gives_status : ℕ → Bool
gives_status n = is_status (me 1 5 n) (me 6 8 n)

-- ---- what is meant

unfoldable pub meant_groups : Groups → Groups
meant_groups g =
    record {
      identification = cond (gives_identification g.identification) g.identification 0;
      velocity = cond (gives_velocity g.coarse g.velocity) g.velocity 0;
      surface = cond (gives_surface g.surface) g.surface 0;
      status = cond (gives_status g.status) g.status 0;
      pressure = g.pressure;
      height = g.height;
      typecode = g.typecode;
      bit8 = g.bit8;
      coarse = g.coarse;
    }

unfoldable pub meant_position : Position → Position
meant_position p = cond p.known p no_position

unfoldable pub meant_saved : Saved → Saved
meant_saved v = cond v.known v no_saved

unfoldable pub meant : Track → Track
meant t =
    record {
      heard = t.heard;
      groups = meant_groups t.groups;
      position = meant_position t.position;
      saved = meant_saved (get_or t.saved 0 no_saved) ∷ meant_saved (get_or t.saved 1 no_saved) ∷ [];
    }

-- what every track means has: an ME that does not give its group is 0, and what has no mark is all zeros
pub record NothingForeign (t : Track) : Type 0 where
  pub identification : gives_identification t.groups.identification ≡ false → t.groups.identification ≡ 0
  pub velocity : gives_velocity t.groups.coarse t.groups.velocity ≡ false → t.groups.velocity ≡ 0
  pub surface : gives_surface t.groups.surface ≡ false → t.groups.surface ≡ 0
  pub status : gives_status t.groups.status ≡ false → t.groups.status ≡ 0
  pub position : t.position.known ≡ false → t.position ≡ no_position
  pub even : (get_or t.saved 0 no_saved).known ≡ false → get_or t.saved 0 no_saved ≡ no_saved
  pub odd : (get_or t.saved 1 no_saved).known ≡ false → get_or t.saved 1 no_saved ≡ no_saved
