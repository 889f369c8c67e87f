-- The bytes keep what a form has to: what is put is read back, and bytes elsewhere stay.
-- Assumes nothing.
use Rattle.std.specs.Prelude.{Result, ⊤}
use Prim.Native.Nat.{ℕ, ◌-◌, ◌/◌, ◌^◌, ◌≤◌, ◌<◌}
use native.Mathlib.Omega.{arith}
use mathlib.Core.Bool.{Bool, true, false, cond, not, ◌&&◌}
use mathlib.Core.Path.{◌≡◌, refl, ap, ◌∙◌}
use mathlib.Core.List.{List}
use lib.ListN.{length, drop}
use Rattle.fields.specs.Bytes.{Bytes}
use Rattle.fields.proofs.Bools.{by_test}
use Rattle.fields.proofs.Bytes.{bytes_take, bytes_drop}
use Rattle.positions.specs.declared.Spot.{Spot}
use Rattle.positions.specs.Positions.{pole_to_pole}
use Rattle.whereabouts.specs.declared.Site.{Site}
use Rattle.whereabouts.specs.Located.{no_site}
use Rattle.track.specs.declared.Track.{Track}
use Rattle.place.specs.Place.{body_of, Fits}
use Rattle.memory.specs.Ranges.{in_range}
use Rattle.track.specs.Meaning.{NothingForeign}
use Rattle.track.specs.Held.{track_or_new}
use Rattle.place.proofs.Meaning.{any_bytes_nothing_foreign}
use Rattle.place.proofs.BothWays.{read_written, written_in_range, read_fits}
use Rattle.memory.specs.Offsets.{clock_at, head_size, body_size, place_size, body_start, whole_places, places_in}
use Rattle.table_bytes.specs.Layout.{cell_of, Place, clock_of, site_of, key_at, body_at, place_at, moved, stored, emptied, emptied_at}
use Rattle.memory.proofs.Counts.{sized}
use Rattle.table_bytes.proofs.Places.{moved_length, moved_clock, moved_site, moved_bytes, place_head, stored_length, stored_clock, stored_site, stored_bytes, place_other, place_same}
use Rattle.keys.specs.Keys.{is_key}
use Rattle.keys.proofs.Laws.{before_end}
use Rattle.rules.specs.Form.{Cell, taken, holds, Lawful}
use Rattle.rules.specs.Rules as rules
use Rattle.rules.specs.View.{Once, AllFit, Table}
use Rattle.rules.proofs.Laws.{received_keeps}
use Rattle.table.specs.Bytes.{bytes}
use Rattle.rules.proofs.Says as any
use Rattle.table.specs.Table.{After, received, looked_up}
use Rattle.table.proofs.Emptied.{number_zero, no_key, emptied_zero, emptied_length, emptied_bytes, siteless, site_length, site_bytes, before, behind, set_up_site}
use Rattle.refusals.specs.declared.Refusal.{Refusal}

abbrev cell_in : Place → Cell
cell_in p = cell_of p.key p.body

abbrev counted : ℕ → ℕ
counted l = (l - head_size) / place_size

written : (key : ℕ) (x : Track) → is_key key ≡ true → Fits x → cell_of key (body_of x) ≡ taken key x
written key x is_key f = rw (read_written x f, written_in_range x f key is_key)

there : (s : List ℕ) (i key : ℕ) (x : Track) → whole_places (length s) ≡ true → i < places_in s → is_key key ≡ true → Fits x
    → bytes.cell (stored s (places_in s) i key x) i ≡ taken key x
there s i key x w h is_key f =
    ap (λ (n : ℕ). cell_in (place_at (stored s (places_in s) i key x) n i)) (ap counted (stored_length s (places_in s) i key x))
    ∙ ap cell_in (place_same s (places_in s) i key x h (omega (arith, sized (length s) w)) (omega (arith, before_end key is_key)))
    ∙ written key x is_key f

-- ---- set-up, with a site or without

empties : (s : List ℕ) (spot : Spot) (b : Bool) → length (cond b (emptied_at s spot) (emptied s)) ≡ length s
empties s spot true = site_length s spot
empties s spot false = emptied_length s

at_zero : (s : List ℕ) (spot : Spot) (b : Bool) → clock_of (cond b (emptied_at s spot) (emptied s)) ≡ 0
at_zero s spot true = number_zero 8 (emptied_at s spot) clock_at (λ j p q. before s spot j q)
at_zero s spot false = number_zero 8 (emptied s) clock_at (λ j p q. emptied_zero s j)

unkept : (s : List ℕ) (spot : Spot) (b : Bool) (i : ℕ) (body : List ℕ) → in_range (key_at (cond b (emptied_at s spot) (emptied s)) i) body ≡ false
unkept s spot true = no_key (emptied_at s spot) (behind s spot)
unkept s spot false = no_key (emptied s) (λ j h. emptied_zero s j)

sited : (s : List ℕ) (spot : Spot) (b : Bool) → head_size ≤ length s → (b ≡ true → (pole_to_pole spot.latitude ≡ true) × (spot.longitude < 2 ^ 32))
    → site_of (cond b (emptied_at s spot) (emptied s)) ≡ cond b (record { known = b; spot = spot }) no_site
sited s spot true l f = set_up_site s spot l (f refl).0 (f refl).1
sited s spot false l f = siteless s

pub bytes_lawful : Lawful bytes
bytes_lawful =
    record {
      moved_whole = λ s t. ap whole_places (moved_length s t);
      moved_count = λ s t. ap counted (moved_length s t);
      moved_site = moved_site;
      moved_cell = λ s t i. ap (λ (n : ℕ). cell_in (place_at (moved s t) n i)) (ap counted (moved_length s t)) ∙ ap cell_in (place_head s t (places_in s) i);
      moved_clock = λ s t w f. moved_clock s t (omega (arith, sized (length s) w)) f;
      stored_whole = λ s i key x. ap whole_places (stored_length s (places_in s) i key x);
      stored_count = λ s i key x. ap counted (stored_length s (places_in s) i key x);
      stored_site = λ s i key x. stored_site s (places_in s) i key x;
      stored_clock = λ s i key x. stored_clock s (places_in s) i key x;
      stored_there = there;
      stored_elsewhere = λ s i key x h j g ne.
          ap (λ (n : ℕ). cell_in (place_at (stored s (places_in s) i key x) n j)) (ap counted (stored_length s (places_in s) i key x))
          ∙ ap cell_in (place_other s (places_in s) i key x h j g ne);
      emptied_whole = λ s o. ap whole_places (empties s o.spot o.known);
      emptied_count = λ s o. ap counted (empties s o.spot o.known);
      emptied_clock = λ s o. at_zero s o.spot o.known;
      emptied_site = λ s o w f. sited s o.spot o.known (omega (arith, sized (length s) w)) f;
      emptied_cell = λ s o i. unkept s o.spot o.known i _;
    }

-- ---- bytes stay bytes

emptied_as : (s : List ℕ) (spot : Spot) (b : Bool) → Bytes (cond b (emptied_at s spot) (emptied s))
emptied_as s spot true = site_bytes s spot
emptied_as s spot false = emptied_bytes s

pub bytes_set_up : (s : List ℕ) (o : Site) → Bytes s → Bytes (rules.set_up bytes s o).table
unfolding rules.set_up
bytes_set_up s o b =
    let P : After (Result ⊤ Refusal) → Type 0 = λ (r : After (Result ⊤ Refusal)). Bytes r.table in
    by_test P (not (whole_places (length s))) _ _ (λ _. b)
    (λ _. by_test P (o.known && not (pole_to_pole o.spot.latitude)) _ _ (λ _. b) (λ _. emptied_as s o.spot o.known))

pub bytes_after : (s message : List ℕ) (t : ℕ) → Bytes s → Bytes (received s message t).table
bytes_after s message t b = received_keeps bytes s message t Bytes b (moved_bytes s t b) (λ i key x. stored_bytes (moved s t) (places_in (moved s t)) i key x (moved_bytes s t b))

-- ---- they read as tracks that fit, so what holds of a table holds of any bytes of whole places in which each key is held once

pub all_fit : (s : List ℕ) → Bytes s → AllFit bytes s
unfolding body_at
all_fit s b i h e =
    read_fits (body_at s (places_in s) i) (bytes_take body_size (drop (body_start (places_in s) i) s) (bytes_drop (body_start (places_in s) i) s b))

pub table_of : (s : List ℕ) → Bytes s → whole_places (length s) ≡ true → ((key : ℕ) → Once (holds (clock_of s) key) (bytes.cell s) (places_in s)) → Table bytes s
table_of s b w once = record { size = w; fit = all_fit s b; once = once }

-- whatever the bytes, a look hands out no ME of a foreign TYPE, and nothing where a mark is not set
pub looked_nothing_foreign : (s : List ℕ) (key : ℕ) → NothingForeign (track_or_new (looked_up s key))
looked_nothing_foreign s key = any.looked_nothing_foreign bytes s key (λ i. any_bytes_nothing_foreign (body_at s (places_in s) i))
