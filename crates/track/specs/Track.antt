-- RULES 8.1 to 8.15 and 17.7: what one message does to its track.
use Rattle.std.specs.Prelude.{ℕ, ◌-◌, ◌%◌, ◌^◌, [], ◌∷◌, Bool, true, false, cond, eqb, get_or, set, Result, Ok, Err}
use Rattle.refusals.specs.declared.Refusal.TheVariants.{Field}
use Rattle.positions.specs.declared.Counts.{Counts}
use Rattle.positions.specs.declared.Format.{Format}
use Rattle.positions.specs.declared.Format.TheVariants.{Even, Odd}
use Rattle.layouts.specs.declared.surface.Surface.{Surface}
use Rattle.layouts.specs.declared.airborne.Airborne.{Airborne}
use Rattle.layouts.specs.declared.coarse.Coarse.{Coarse}
use Rattle.layouts.specs.declared.bodies.Body.{Body}
use Rattle.layouts.specs.declared.bodies.Body.TheVariants as body
use Rattle.layouts.specs.Bodies.{taken_by, body_me, body_fits}
use Rattle.whereabouts.specs.declared.Position.{Position}
use Rattle.whereabouts.specs.declared.Saved.{Saved}
use Rattle.whereabouts.specs.declared.Site.{Site}
use Rattle.track.specs.declared.Groups.{Groups}
use Rattle.track.specs.declared.Track.{Track}
use Rattle.track.specs.declared.Stepped.{Stepped}
use Rattle.track.specs.Groups.{no_groups, identified, moving, on_surface, stating, at_pressure, reported, high, positioned}
use Rattle.whereabouts.specs.Located.{no_position, size_of, airborne_position, surface_position}
use Rattle.messages.specs.declared.Message.{Message}
use Rattle.refusals.specs.declared.Refusal.{Refusal}

abbrev pub no_saved : Saved
no_saved = record { known = false; coarse = false; counts = record { latitude = record { 0 = 0 }; longitude = record { 0 = 0 } }; time = 0 }

-- RULES 8.1: a track that has heard nothing yet
abbrev pub new_track : Track
new_track = record { heard = 0; groups = no_groups; position = no_position; saved = no_saved ∷ no_saved ∷ [] }

-- a message that gives no position
unfoldable pub group_track : Track → Groups → ℕ → Track
group_track t g time = record { heard = time; groups = g; position = t.position; saved = t.saved }

-- RULES 8.8: F is 0 for even, 1 for odd
abbrev pub format_of : ℕ → Format
format_of f = cond (eqb f 0) Even Odd

-- RULES 8.15: the position after a message; on 8, which only a track or a site with values out of their range earns, it stays
abbrev pub placed_or : Result Position Refusal → Position → Position
placed_or (Ok found) p = found
placed_or (Err r) p = p

-- the encoded position of an airborne message, and of a coarse one
abbrev pub counts_in : Airborne → Counts
counts_in b = record { latitude = b.latitude; longitude = b.longitude }

abbrev pub coarse_counts : Coarse → Counts
coarse_counts b = record { latitude = b.latitude; longitude = b.longitude }

-- the groups after a message of TYPE 9-18 or 20-22, and after a coarse one, which has no TYPE and no bit 8 to leave
abbrev pub airborne_groups : Groups → Airborne → Groups
airborne_groups g b = positioned (high g b.typecode b.altitude) b.typecode (eqb b.bit8 1)

abbrev pub coarse_groups : Groups → Coarse → ℕ → Groups
coarse_groups g b me = at_pressure (moving g true me) b.altitude

-- RULES 8.8: a position in the air, fine or coarse, is saved by its F, then paired with the other one
unfoldable pub saved_track : Track → Groups → Bool → ℕ → Counts → ℕ → Track
saved_track t g coarse f counts time =
    record {
      heard = time;
      groups = g;
      position = placed_or (airborne_position t.position (get_or t.saved (1 - f) no_saved) (size_of coarse) counts (format_of f) time) t.position;
      saved = set t.saved f (record { known = true; coarse = coarse; counts = counts; time = time });
    }

abbrev pub airborne_track : Track → Airborne → ℕ → Track
airborne_track t b time = saved_track t (airborne_groups t.groups b) false b.f (counts_in b) time

abbrev pub coarse_track : Track → Coarse → ℕ → ℕ → Track
coarse_track t b me time = saved_track t (coarse_groups t.groups b me) true b.f (coarse_counts b) time

-- RULES 8.7: TYPE 0 has the airborne layout and no position: only the altitude that it reports counts
abbrev pub airborne_step : Track → Airborne → ℕ → Track
airborne_step t b time = cond (eqb b.typecode 0) (group_track t (reported t.groups b.altitude) time) (airborne_track t b time)

-- RULES 8.11: a surface message clears the two saved ones
unfoldable pub surface_track : Track → Surface → ℕ → Site → ℕ → Track
surface_track t b me site time =
    record {
      heard = time;
      groups = positioned (on_surface t.groups me) b.typecode false;
      position = placed_or (surface_position t.position site (record { latitude = b.latitude; longitude = b.longitude }) (format_of b.f) time) t.position;
      saved = no_saved ∷ no_saved ∷ [];
    }

-- RULES 8.5: by the layout of the message
abbrev pub step_body : Track → Body → ℕ → Site → ℕ → Track
step_body t (body.Identification b) me site time = group_track t (identified t.groups me) time
step_body t (body.Surface b) me site time = surface_track t b me site time
step_body t (body.Airborne b) me site time = airborne_step t b time
step_body t (body.Ground b) me site time = group_track t (moving t.groups false me) time
step_body t (body.Air b) me site time = group_track t (moving t.groups false me) time
step_body t (body.Status b) me site time = group_track t (stating t.groups me) time
step_body t (body.Coarse b) me site time = coarse_track t b me time

-- what the ME of a message does, of which 56 bits are read: one that is not taken leaves the track
abbrev pub step_taken : Track → Result Body Refusal → ℕ → Site → ℕ → Track
step_taken t (Ok b) me site time = step_body t b me site time
step_taken t (Err r) me site time = t

abbrev pub step_me : Track → Bool → ℕ → Site → ℕ → Track
step_me t coarse n site time = step_taken t (taken_by coarse (n % 2 ^ 56)) (n % 2 ^ 56) site time

-- RULES 8.5 and 8.15: what the decoder's answer does: a message steps the track, and a refusal is passed on and leaves it; a message whose ME fields do not fit is 8 (DF, CA or CF and AA are not read here)
abbrev pub stepped : Track → Result Message Refusal → Site → ℕ → Stepped
stepped t (Err r) site time = record { answer = Err r; track = t }
stepped t (Ok m) site time =
    cond (body_fits m.body)
    (record { answer = Ok m; track = step_body t m.body (body_me m.body) site time })
    (record { answer = Err Field; track = t })
