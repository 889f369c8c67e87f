-- RULES 9.4 and 19.2: what a form of the lent table is: how its head and its places are read and written. The rules are said over any form, and their laws are proved of any that keeps the sixteen below.
use Rattle.std.specs.Prelude.{ℕ, ◌^◌, ◌<◌, Bool, true, false, cond, ◌&&◌, ◌≡◌, eqb}
use Rattle.keys.specs.Keys.{is_key}
use Rattle.positions.specs.Positions.{pole_to_pole}
use Rattle.whereabouts.specs.declared.Site.{Site}
use Rattle.whereabouts.specs.Located.{no_site}
use Rattle.track.specs.declared.Track.{Track}
use Rattle.track.specs.Held.{in_date}
use Rattle.place.specs.Place.{Fits}

-- what a place says: its key, its track, and whether each value of it is in its range
pub record Cell : Type 0 where
  pub key : ℕ
  pub track : Track
  pub in_range : Bool

-- a place that holds a track with a key
abbrev pub taken : ℕ → Track → Cell
taken key t = record { key = key; track = t; in_range = true }

-- the place is held at the clock: every value in its range, and its track in date
unfoldable pub is_held : ℕ → Cell → Bool
is_held clock c = c.in_range && in_date clock c.track.heard

-- .. with the key
unfoldable pub holds : ℕ → ℕ → Cell → Bool
holds clock key c = eqb c.key key && is_held clock c

pub record Form (S : Type 0) : Type 0 where
  -- 1 to 1,024 places
  pub whole : S → Bool
  pub count : S → ℕ
  pub clock : S → ℕ
  pub site : S → Site
  pub cell : S → ℕ → Cell
  -- the clock moved, and nothing else
  pub moved : S → ℕ → S
  -- a key and its track at a place
  pub stored : S → ℕ → ℕ → Track → S
  -- no track, clock 0, and the site if it is known
  pub emptied : S → Site → S

-- a longitude has 32 bits, as a set-up is given it
abbrev pub East : Site → Type 0
East o = o.known ≡ true → o.spot.longitude < 2 ^ 32

-- a site that a set-up takes: its latitude from pole to pole too
abbrev pub SiteFits : Site → Type 0
SiteFits o = o.known ≡ true → (pole_to_pole o.spot.latitude ≡ true) × (o.spot.longitude < 2 ^ 32)

-- what a form has to keep: the clock moves alone; a track is stored at its place alone, where it is read back; and nothing is held after a set-up
pub record Lawful {S : Type 0} (F : Form S) : Type 0 where
  pub moved_whole : (s : S) (t : ℕ) → F.whole (F.moved s t) ≡ F.whole s
  pub moved_count : (s : S) (t : ℕ) → F.count (F.moved s t) ≡ F.count s
  pub moved_site : (s : S) (t : ℕ) → F.site (F.moved s t) ≡ F.site s
  pub moved_cell : (s : S) (t i : ℕ) → F.cell (F.moved s t) i ≡ F.cell s i
  pub moved_clock : (s : S) (t : ℕ) → F.whole s ≡ true → t < 2 ^ 64 → F.clock (F.moved s t) ≡ t
  pub stored_whole : (s : S) (i key : ℕ) (x : Track) → F.whole (F.stored s i key x) ≡ F.whole s
  pub stored_count : (s : S) (i key : ℕ) (x : Track) → F.count (F.stored s i key x) ≡ F.count s
  pub stored_site : (s : S) (i key : ℕ) (x : Track) → F.site (F.stored s i key x) ≡ F.site s
  pub stored_clock : (s : S) (i key : ℕ) (x : Track) → F.clock (F.stored s i key x) ≡ F.clock s
  pub stored_there : (s : S) (i key : ℕ) (x : Track) → F.whole s ≡ true → i < F.count s → is_key key ≡ true → Fits x
      → F.cell (F.stored s i key x) i ≡ taken key x
  pub stored_elsewhere : (s : S) (i key : ℕ) (x : Track) → i < F.count s → (j : ℕ) → j < F.count s → (j ≡ i → ⊥)
      → F.cell (F.stored s i key x) j ≡ F.cell s j
  pub emptied_whole : (s : S) (o : Site) → F.whole (F.emptied s o) ≡ F.whole s
  pub emptied_count : (s : S) (o : Site) → F.count (F.emptied s o) ≡ F.count s
  pub emptied_clock : (s : S) (o : Site) → F.clock (F.emptied s o) ≡ 0
  pub emptied_site : (s : S) (o : Site) → F.whole s ≡ true → SiteFits o → F.site (F.emptied s o) ≡ cond o.known o no_site
  pub emptied_cell : (s : S) (o : Site) (i : ℕ) → (F.cell (F.emptied s o) i).in_range ≡ false
