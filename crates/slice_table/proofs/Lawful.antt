-- The slice keeps what a form has to: what is set is read back, and a track that fits has each value in its range.
-- Assumes nothing.
use Prim.Native.Nat.{ℕ, zero, suc, ◌<◌}
use mathlib.Core.Bool.{Bool, true, false, cond, ◌&&◌}
use mathlib.Core.Path.{◌≡◌, refl, ap, ap₂, ◌∙◌}
use mathlib.Core.List.{List}
use lib.ListN.{length, get_or, set, replicate, length-set, length-replicate}
use lib.Seq.{get_or-set_same, get_or-set_other}
use borrow.Author.Tests.{lt-ltb}
use Rattle.fields.proofs.Bools.{both}
use Rattle.positions.specs.Positions.{count_size, pole_to_pole}
use Rattle.whereabouts.specs.declared.Saved.{Saved}
use Rattle.whereabouts.specs.declared.Site.{Site}
use Rattle.whereabouts.specs.Located.{no_site, size_of}
use Rattle.track.specs.declared.Groups.{Groups}
use Rattle.track.specs.declared.Track.{Track}
use Rattle.track.specs.Track.{no_saved}
use Rattle.track.specs.Meaning.{NothingForeign}
use Rattle.track.specs.Held.{track_or_new}
use Rattle.place.specs.Place.{Fits, FitsGroups, FitsSaved}
use Rattle.slice_places.specs.declared.Place.{Place}
use Rattle.slice_places.specs.declared.Head.{Head}
use Rattle.slice_places.specs.Ranges.{no_place, groups_fit, counts_fit, track_fits, in_range, cell_in}
use Rattle.slice_places.specs.Head.{places_fit, head_of, moved, site_of}
use Rattle.place.proofs.BothWays.{fits_meant}
use Rattle.keys.specs.Keys.{is_key}
use Rattle.rules.specs.Form.{taken, SiteFits, Lawful}
use Rattle.rules.proofs.Says as any
use Rattle.slice_places.proofs.Meaning.{any_place_nothing_foreign}
use Rattle.slice_table.specs.Slice.{slice_of, slice}
use Rattle.slice_table.specs.Tracks.{looked_up}

groups_in_lem : (g : Groups) → FitsGroups g → groups_fit g ≡ true
unfolding groups_fit
groups_in_lem g f =
    both
    (both
    (both
    (both
    (both
    (both (lt-ltb g.identification 72057594037927936 f.identification) (lt-ltb g.velocity 72057594037927936 f.velocity))
    (lt-ltb g.surface 72057594037927936 f.surface))
    (lt-ltb g.status 72057594037927936 f.status))
    (lt-ltb g.pressure 4096 f.pressure))
    (lt-ltb g.height 4096 f.height))
    (lt-ltb g.typecode 32 f.typecode)

counts_in_lem : (v : Saved) → FitsSaved v → counts_fit v ≡ true
unfolding counts_fit
counts_in_lem v f =
    let size : ℕ = count_size (size_of v.coarse) in
    both (lt-ltb v.counts.latitude.0 size f.latitude) (lt-ltb v.counts.longitude.0 size f.longitude)

track_in_lem : (t : Track) → Fits t → track_fits t ≡ true
unfolding track_fits
track_in_lem t f =
    both
    (both (both (groups_in_lem t.groups f.groups) f.position.latitude) (counts_in_lem (get_or t.saved 0 no_saved) f.even))
    (counts_in_lem (get_or t.saved 1 no_saved) f.odd)

stored_in : (key : ℕ) → is_key key ≡ true → (t : Track) → Fits t → in_range (record { key = key; track = t }) ≡ true
unfolding in_range
stored_in key is_key t f = both is_key (track_in_lem t f)

there : (ps : List Place) (i key : ℕ) (x : Track) → i < length ps → is_key key ≡ true → Fits x
    → cell_in (get_or (set ps i (record { key = key; track = x })) i no_place) ≡ taken key x
there ps i key x h is_key f =
    ap cell_in (get_or-set_same ps i (record { key = key; track = x }) no_place h)
    ∙ ap₂ (λ (t : Track) (b : Bool). record { key = key; track = t; in_range = b }) (fits_meant x f) (stored_in key is_key x f)

site_moved : (head : Head) (time : ℕ) → site_of (moved head time) ≡ site_of head
unfolding site_of
site_moved head time = refl

all_empty : (n i : ℕ) → get_or (replicate n no_place) i no_place ≡ no_place
all_empty zero i = refl
all_empty (suc n) zero = refl
all_empty (suc n) (suc i) = all_empty n i

nobody : in_range no_place ≡ false
unfolding in_range
nobody = refl

sited : (o : Site) → SiteFits o → site_of (head_of 0 o) ≡ cond o.known o no_site
unfolding site_of
sited o f = by_cases o.known (pole_to_pole o.spot.latitude) (λ k. (f k).0)
  where
    by_cases : (k b : Bool) → (k ≡ true → b ≡ true) → cond (k && b) o no_site ≡ cond k o no_site
    by_cases true b h = rw (h refl)
    by_cases false b h = refl

pub slice_lawful : Lawful slice
slice_lawful =
    record {
      moved_whole = λ s t. refl;
      moved_count = λ s t. refl;
      moved_site = λ s t. site_moved s.head t;
      moved_cell = λ s t i. refl;
      moved_clock = λ s t w f. refl;
      stored_whole = λ s i key x. ap places_fit (length-set s.places i (record { key = key; track = x }));
      stored_count = λ s i key x. length-set s.places i (record { key = key; track = x });
      stored_site = λ s i key x. refl;
      stored_clock = λ s i key x. refl;
      stored_there = λ s i key x w h is_key f. there s.places i key x h is_key f;
      stored_elsewhere = λ s i key x h j g ne. ap cell_in (get_or-set_other s.places i j (record { key = key; track = x }) no_place ne);
      emptied_whole = λ s o. ap places_fit (length-replicate (length s.places) no_place);
      emptied_count = λ s o. length-replicate (length s.places) no_place;
      emptied_clock = λ s o. refl;
      emptied_site = λ s o w f. sited o f;
      emptied_cell = λ s o i. ap in_range (all_empty (length s.places) i) ∙ nobody;
    }

-- whatever the places, a look hands out no ME of a foreign TYPE, and nothing where a mark is not set
pub looked_nothing_foreign : (ps : List Place) (head : Head) (key : ℕ) → NothingForeign (track_or_new (looked_up ps head key))
looked_nothing_foreign ps head key = any.looked_nothing_foreign slice (slice_of head ps) key (λ i. any_place_nothing_foreign (get_or ps i no_place))
