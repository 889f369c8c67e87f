-- RULES 20.5: a track as 72 numbers: 30 as it is kept, 36 that people are shown, and 6 of its integrity.
use Rattle.std.specs.Prelude.{ℕ, ◌+◌, List, [], ◌∷◌, ◌++◌, get_or, Option, Result}
use Rattle.keys.specs.Keys.{kind_in}
use Rattle.entries.specs.Twos.{twos}
use Rattle.readings.specs.Altitude.{altitude_of}
use Rattle.readings.specs.declared.altitude.Altitude.{Altitude}
use Rattle.refusals.specs.declared.Refusal.{Refusal}
use Rattle.whereabouts.specs.declared.Saved.{Saved}
use Rattle.track.specs.declared.Track.{Track}
use Rattle.track.specs.Track.{no_saved}
use Rattle.track_rows.specs.Standard.{standard_row}
use Rattle.track_rows.specs.Shown.{shown}
use Rattle.entries.specs.Means.{bit, altitude_reading, step_reading}

-- how many entries it has
abbrev pub track_size : ℕ
track_size = 30 + 36 + 6

-- 1, as it is held; when last heard; the ME that gave the identification, the velocity, the surface fields and the status; the codes of pressure altitude and GNSS height;
-- TYPE of the latest position message and, of an airborne one, bit 8 of ME;
-- whether the position is known, its latitude, longitude and time;
-- of the latest even encoded position and the latest odd one: whether there is one, its latitude count, its longitude count, its time;
-- pressure altitude and GNSS height as readings, each with its step behind it
unfoldable pub kept_row : Track → List ℕ
kept_row t =
    let even : Saved = get_or t.saved 0 no_saved in
    let odd : Saved = get_or t.saved 1 no_saved in
    let pressure : Result (Option Altitude) Refusal = altitude_of t.groups.pressure in
    let height : Result (Option Altitude) Refusal = altitude_of t.groups.height in
    1 ∷ t.heard ∷ t.groups.identification ∷ t.groups.velocity ∷ t.groups.surface ∷ t.groups.status ∷ t.groups.pressure ∷ t.groups.height ∷
    t.groups.typecode ∷ bit t.groups.bit8 ∷
    bit t.position.known ∷ twos t.position.spot.latitude ∷ t.position.spot.longitude ∷ t.position.time ∷
    bit even.known ∷ even.counts.latitude.0 ∷ even.counts.longitude.0 ∷ even.time ∷
    bit odd.known ∷ odd.counts.latitude.0 ∷ odd.counts.longitude.0 ∷ odd.time ∷
    (altitude_reading pressure).what ∷ (altitude_reading pressure).value ∷ (step_reading pressure).what ∷ (step_reading pressure).value ∷
    (altitude_reading height).what ∷ (altitude_reading height).value ∷ (step_reading height).what ∷ (step_reading height).value ∷ []

-- of a key
unfoldable pub track_row : ℕ → Track → List ℕ
track_row key t = kept_row t ++ (shown (kind_in key) t ++ standard_row (kind_in key) t)
