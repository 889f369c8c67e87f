-- RULES 9.9 to 9.11: a place of the slice: a key and a track, each value of which has the range that the bytes of a table have room for.
use Rattle.std.specs.Prelude.{ℕ, Bool, ◌&&◌, ltb, get_or}
use Rattle.keys.specs.Keys.{is_key}
use Rattle.positions.specs.Positions.{count_size, pole_to_pole}
use Rattle.whereabouts.specs.declared.Saved.{Saved}
use Rattle.whereabouts.specs.Located.{size_of}
use Rattle.track.specs.declared.Groups.{Groups}
use Rattle.track.specs.declared.Track.{Track}
use Rattle.track.specs.Track.{new_track, no_saved}
use Rattle.track.specs.Meaning.{meant}
use Rattle.rules.specs.Form.{Cell}
use Rattle.rules.specs.Form as form
use Rattle.slice_places.specs.declared.Place.{Place}

-- a place that nobody has
abbrev pub no_place : Place
no_place = record { key = 0; track = new_track }

-- the track that a place means, whatever its values
abbrev pub meaning_of : Place → Track
meaning_of p = meant p.track

-- four messages of 56 bits, two altitude codes of 12, a TYPE of 5
unfoldable pub groups_fit : Groups → Bool
groups_fit g =
    ltb g.identification 72057594037927936
    && ltb g.velocity 72057594037927936
    && ltb g.surface 72057594037927936
    && ltb g.status 72057594037927936
    && ltb g.pressure 4096
    && ltb g.height 4096
    && ltb g.typecode 32

-- two counts of 17 bits, or of 12 if they are coarse
unfoldable pub counts_fit : Saved → Bool
counts_fit v = ltb v.counts.latitude.0 (count_size (size_of v.coarse)) && ltb v.counts.longitude.0 (count_size (size_of v.coarse))

-- .. a latitude from pole to pole, and the counts of the two saved positions
unfoldable pub track_fits : Track → Bool
track_fits t =
    groups_fit t.groups
    && pole_to_pole t.position.spot.latitude
    && counts_fit (get_or t.saved 0 no_saved)
    && counts_fit (get_or t.saved 1 no_saved)

-- .. and the key is one
unfoldable pub in_range : Place → Bool
in_range p = is_key p.key && track_fits p.track

-- what a place says
abbrev pub cell_in : Place → Cell
cell_in p = record { key = p.key; track = meaning_of p; in_range = in_range p }

-- the place is held at the clock, by the rule of any form
abbrev pub is_held : ℕ → Place → Bool
is_held clock p = form.is_held clock (cell_in p)

-- .. with the key
abbrev pub holds : ℕ → ℕ → Place → Bool
holds clock key p = form.holds clock key (cell_in p)
