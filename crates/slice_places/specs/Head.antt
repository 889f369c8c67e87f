-- RULES 3.4 and 3.9: what a table has beside its places: how many they are, its clock, and its site.
use Rattle.std.specs.Prelude.{ℕ, Bool, cond, ◌&&◌, leb}
use Rattle.memory.specs.Offsets.{most_places}
use Rattle.positions.specs.Positions.{pole_to_pole}
use Rattle.whereabouts.specs.declared.Site.{Site}
use Rattle.whereabouts.specs.Located.{no_site}
use Rattle.slice_places.specs.declared.Head.{Head}

-- 1 to 1,024 places
unfoldable pub places_fit : ℕ → Bool
places_fit n = leb 1 n && leb n most_places

abbrev pub head_of : ℕ → Site → Head
head_of clock site = record { clock = clock; site = site }

-- the clock moved, and nothing else
abbrev pub moved : Head → ℕ → Head
moved head time = head_of time head.site

-- a site that is out of its range counts as none
unfoldable pub site_of : Head → Site
site_of head = cond (head.site.known && pole_to_pole head.site.spot.latitude) head.site no_site
