-- RULES 9.14 and 9.16: the bytes of a lent table of n places: a head, a key for each place, then a body for each.
use Rattle.std.specs.Prelude.{ℕ, ◌+◌, ◌-◌, ◌%◌, Bool, true, cond, ◌&&◌, List, ◌++◌, leb, length, take, drop, replicate}
use Rattle.memory.specs.Offsets.{clock_at, site_latitude_at, site_longitude_at, body_size, key_start, body_start}
use Rattle.positions.specs.declared.Spot.{Spot}
use Rattle.whereabouts.specs.declared.Site.{Site}
use Rattle.whereabouts.specs.Located.{no_site}
use Rattle.track.specs.declared.Track.{Track}
use Rattle.memory.specs.Bytes.{number_at, low_bytes, put}
use Rattle.place.specs.Place.{lowered, above_pole, track_of, body_of}
use Rattle.memory.specs.Ranges.{in_range}
use Rattle.rules.specs.Form.{Cell}
use Rattle.rules.specs.Form as form

-- ---- the head

abbrev pub clock_of : List ℕ → ℕ
clock_of s = number_at 8 s clock_at

-- 0 where there is none, else the latitude plus 2^30 + 1; a number above the north pole's is out of its range and counts as none
unfoldable pub site_from : ℕ → ℕ → Site
site_from n longitude =
    cond (leb 1 n && leb n 2147483649)
    (record { known = true; spot = record { latitude = lowered (n - 1); longitude = longitude } })
    no_site

abbrev pub site_of : List ℕ → Site
site_of s = site_from (number_at 4 s site_latitude_at) (number_at 4 s site_longitude_at)

-- ---- a place: its key in the column of keys, and its body

pub record Place : Type 0 where
  pub key : ℕ
  pub body : List ℕ

abbrev pub place_as : ℕ → List ℕ → Place
place_as key body = record { key = key; body = body }

unfoldable pub key_at : List ℕ → ℕ → ℕ
key_at s i = number_at 4 s (key_start i)

unfoldable pub body_at : List ℕ → ℕ → ℕ → List ℕ
body_at s n i = take body_size (drop (body_start n i) s)

-- of n places the one at i
abbrev pub place_at : List ℕ → ℕ → ℕ → Place
place_at s n i = place_as (key_at s i) (body_at s n i)

-- what it says: its key, its track, and whether each value is in its range
abbrev pub cell_of : ℕ → List ℕ → Cell
cell_of key body = record { key = key; track = track_of body; in_range = in_range key body }

-- the place is held at the clock, by the rule of any form
abbrev pub is_held : ℕ → Place → Bool
is_held clock p = form.is_held clock (cell_of p.key p.body)

-- .. with the key
abbrev pub holds : ℕ → ℕ → Place → Bool
holds clock key p = form.holds clock key (cell_of p.key p.body)

-- ---- what is written

-- the clock moved, and nothing else
unfoldable pub moved : List ℕ → ℕ → List ℕ
moved s time = put s clock_at (low_bytes 8 time)

-- of n places a track at i
unfoldable pub stored : List ℕ → ℕ → ℕ → ℕ → Track → List ℕ
stored s n i key t = put (put s (key_start i) (low_bytes 4 key)) (body_start n i) (body_of t)

-- no track, no site, clock 0
unfoldable pub emptied : List ℕ → List ℕ
emptied s = replicate (length s) 0

-- .. but a site
unfoldable pub emptied_at : List ℕ → Spot → List ℕ
emptied_at s spot = put (emptied s) site_latitude_at (low_bytes 4 (above_pole spot.latitude % 4294967296 + 1) ++ low_bytes 4 spot.longitude)
