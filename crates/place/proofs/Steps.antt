-- A step keeps a track that fits: each rule of the step, from the spot that is found up, gives values that fit.
-- Assumes nothing.
use Rattle.std.specs.Prelude.{Result, Ok, Err}
use Prim.Native.Nat.{ℕ, zero, suc, ◌-◌, ◌*◌, ◌^◌, ◌≤◌, ◌<◌}
use mathlib.Core.Path.{◌≡◌, refl, sym, ap, ◌∙◌}
use mathlib.Core.Bool.{Bool, true, false, ◌&&◌}
use mathlib.Core.List.{List, [], ◌∷◌}
use native.Mathlib.Omega.{arith}
use lib.Dec.{leb, eqb}
use lib.IntN.{ℤ, nat_abs, sub_ℕ}
use lib.ListN.{length, get_or, set}
use borrow.Author.Tests.{le-leb, leb-true}
use Rattle.refusals.specs.declared.Refusal.{Refusal}
use Rattle.refusals.specs.declared.Refusal.TheVariants.{Field, Latitude, Zones}
use Rattle.refusals.specs.Numbers.{number_of}
use Rattle.fields.proofs.Bools.{each, by_test}
use Rattle.positions.specs.declared.Counts.{Counts}
use Rattle.positions.specs.declared.Spot.{Spot}
use Rattle.positions.specs.declared.Size.{Size}
use Rattle.positions.specs.declared.Size.TheVariants.{Fine, Coarse}
use Rattle.positions.specs.declared.Turn.{Turn}
use Rattle.positions.specs.declared.Turn.TheVariants as turn
use Rattle.positions.specs.declared.Format.{Format}
use Rattle.positions.specs.declared.Format.TheVariants.{Even, Odd}
use Rattle.positions.specs.Positions.{
  units,
  count_size,
  latitude_zones,
  all_round,
  pole_to_pole,
  rounded,
  inside,
  pair_latitude,
  pair_nl,
  pair_spot,
  pair_found,
  fit,
  paired,
  near,
  near_spot,
  near_found,
  singly,
}
use Rattle.messages.specs.declared.Message.{Message}
use Rattle.whereabouts.specs.declared.Position.{Position}
use Rattle.positions.specs.Code.{nearestℕ}
use Rattle.positions.specs.Rounded.{HandedBy, pair_zones, pair_exact, single_zones, single_exact, last_short}
use Rattle.positions.proofs.Shift.{abs_is, lifted, lifted_is}
use Rattle.positions.proofs.Naturals.{rounded_is, rounded_low, rounded_high}
use Rattle.positions.proofs.Short.{paired_handed, singly_handed, last_room}
use Rattle.layouts.specs.declared.surface.Surface.{Surface}
use Rattle.layouts.specs.declared.bodies.Body.{Body}
use Rattle.layouts.specs.declared.bodies.Body.TheVariants as body
use Rattle.layouts.specs.Bodies.{body_me, body_fits}
use Rattle.layouts.proofs.BothWays.{fitting, me_lt}
use Rattle.track.specs.declared.Groups.{Groups}
use Rattle.whereabouts.specs.declared.Position.{Position}
use Rattle.whereabouts.specs.declared.Saved.{Saved}
use Rattle.whereabouts.specs.declared.Site.{Site}
use Rattle.track.specs.declared.Stepped.{Stepped}
use Rattle.track.specs.declared.Track.{Track}
use Rattle.track.specs.Groups.{moving, high, at_pressure, reported, at_height, positioned}
use Rattle.whereabouts.specs.Located.{
  is_fresh,
  found_at,
  passed_on,
  settled,
  read_near,
  read_singly,
  paired_with,
  after_pair,
  size_of,
  is_partner,
  airborne_position,
  surface_position,
}
use Rattle.track.specs.Track.{no_saved, new_track, format_of, placed_or, counts_in, group_track, saved_track, surface_track, step_body, stepped}
use Rattle.track.specs.Meaning.{gives_velocity, gives_surface, meant_groups, meant_position, meant_saved}
use Rattle.track.proofs.Meanings.{gives_identification_lem, gives_surface_lem, gives_ground, gives_air, gives_status_lem, identified_meant, moving_meant, surface_meant, stating_meant, pressure_meant, height_meant, positioned_meant}
use Rattle.place.specs.Place.{FitsSaved, FitsGroups, FitsPosition, Fits}
use Rattle.place.proofs.Meaning.{none_fits, no_position_fits}

-- ---- a spot that is found

pole_up : (n : ℕ) → 3221225472 ≤ n → n ≤ 5368709120 → pole_to_pole (sub_ℕ n units) ≡ true
pole_up n l h = le-leb (nat_abs (sub_ℕ n units)) 1073741824 (rw (abs_is n units) (omega arith))

rounded_up : (w M : ℕ) → 0 < M → 4 * nat_abs (sub_ℕ w M) ≤ M → pole_to_pole (rounded M (sub_ℕ w M)) ≡ true
rounded_up w M p h =
    let a = abs_is w M in
    let l : 3 * M ≤ 4 * w = omega (arith, a) in
    let u : 4 * w ≤ 5 * M = omega (arith, a) in
    rw (rounded_is w M p) (pole_up (nearestℕ (w * units) M) (rounded_low w M p l) (rounded_high w M p u))

inside_le : (M : ℕ) (r : ℤ) → inside M r ≡ true → 4 * nat_abs r ≤ M
unfolding inside
inside_le M r e = leb-true (4 * nat_abs r) M e

rounded_pole : (M : ℕ) (r : ℤ) → 0 < M → inside M r ≡ true → pole_to_pole (rounded M r) ≡ true
rounded_pole M r p e =
    let h = inside_le M r e in
    let is : sub_ℕ (lifted r M) M ≡ r = lifted_is r M (omega arith) in
    ap (λ (z : ℤ). pole_to_pole (rounded M z)) (sym is) ∙ rounded_up (lifted r M) M p (rw is h)

-- its latitude is from pole to pole
abbrev PolarFound : Result Spot Refusal → Type 0
PolarFound (Ok s) = pole_to_pole s.latitude ≡ true
PolarFound (Err r) = Unit

pair_inside : (P : ℕ) → 0 < P → (f : Format) (a b : ℕ) → (inside (60 * P) (pair_latitude P Even a b) && inside (59 * P) (pair_latitude P Odd a b)) ≡ true
    → pole_to_pole (rounded (latitude_zones f * P) (pair_latitude P f a b)) ≡ true
pair_inside P some Even a b e = rounded_pole (60 * P) (pair_latitude P Even a b) (omega arith) (each (inside (60 * P) (pair_latitude P Even a b)) _ e).0
pair_inside P some Odd a b e = rounded_pole (59 * P) (pair_latitude P Odd a b) (omega arith) (each (inside (60 * P) (pair_latitude P Even a b)) _ e).1

paired_polar : (P : ℕ) → 0 < P → (even odd : Counts) (later : Format) → PolarFound (paired P even odd later)
unfolding pair_found pair_spot
paired_polar P some even odd later =
    let a = even.latitude.0 in
    let b = odd.latitude.0 in
    by_test PolarFound (fit P even && fit P odd) (pair_found P even odd later) (Err Field)
    (λ _.
    by_test PolarFound (inside (60 * P) (pair_latitude P Even a b) && inside (59 * P) (pair_latitude P Odd a b)) _ (Err Latitude)
    (λ e. by_test PolarFound (eqb (pair_nl P Even a b) (pair_nl P Odd a b)) _ (Err Zones) (λ _. pair_inside P some later a b e) (λ _. tt))
    (λ _. tt))
    (λ _. tt)

zones_pos : (P : ℕ) → 0 < P → (k : Turn) (f : Format) → 0 < all_round k (latitude_zones f) * P
unfolding all_round
zones_pos P some turn.Airborne Even = omega arith
zones_pos P some turn.Airborne Odd = omega arith
zones_pos P some turn.Surface Even = omega arith
zones_pos P some turn.Surface Odd = omega arith

singly_polar : (P : ℕ) → 0 < P → (s : Spot) (c : Counts) (k : Turn) (f : Format) → PolarFound (singly P s c k f)
unfolding near_found near_spot
singly_polar P some s c k f =
    let N = all_round k (latitude_zones f) in
    let r = near P N s.latitude c.latitude.0 in
    by_test PolarFound (fit P c && pole_to_pole s.latitude) (near_found P N s c k f) (Err Field)
    (λ _. by_test PolarFound (inside (N * P) r) _ (Err Latitude) (λ e. rounded_pole (N * P) r (zones_pos P some k f) e) (λ _. tt))
    (λ _. tt)

-- the spot that is found fits its bytes: from pole to pole, and short of a turn
record FitsSpot (s : Spot) : Type 0 where
  latitude : pole_to_pole s.latitude ≡ true
  longitude : s.longitude < 2 ^ 32

abbrev FitsFound : Result Spot Refusal → Type 0
FitsFound (Ok s) = FitsSpot s
FitsFound (Err r) = Unit

spot_fits : (P N r u : ℕ) (found : Result Spot Refusal) → PolarFound found → HandedBy P N r (suc u) found → FitsFound found
spot_fits P N r u (Ok s) p h = record { latitude = p; longitude = omega arith }
spot_fits P N r u (Err e) p h = tt

size_some : (size : Size) → 0 < count_size size
size_some Fine = omega arith
size_some Coarse = omega arith

paired_fits : (size : Size) (even odd : Counts) (later : Format) → FitsFound (paired (count_size size) even odd later)
unfolding all_round
paired_fits size even odd later =
    let P = count_size size in
    let u : ℕ = last_short size turn.Airborne - 1 in
    spot_fits P (pair_zones P even odd later) (pair_exact P even odd later) u (paired P even odd later)
    (paired_polar P (size_some size) even odd later)
    (paired_handed P u (last_room size turn.Airborne) even odd later)

singly_fits : (size : Size) (s : Spot) (c : Counts) (k : Turn) (f : Format) → FitsFound (singly (count_size size) s c k f)
singly_fits size s c k f =
    let P = count_size size in
    spot_fits P (single_zones P s c k f) (single_exact P s c k f) (last_short size k - 1) (singly P s c k f)
    (singly_polar P (size_some size) s c k f)
    (singly_handed P (last_short size k - 1) k (last_room size k) (size_some size) s c f)

-- ---- the position

abbrev FitsPlaced : Result Position Refusal → Type 0
FitsPlaced (Ok p) = FitsPosition p
FitsPlaced (Err r) = Unit

placed_or_fits : (x : Result Position Refusal) (p : Position) → FitsPlaced x → FitsPosition p → FitsPosition (placed_or x p)
placed_or_fits (Ok found) p e f = e
placed_or_fits (Err r) p e f = f

passed_on_fits : (r : Refusal) (other : Result Position Refusal) → FitsPlaced other → FitsPlaced (passed_on r other)
passed_on_fits r other e = by_test FitsPlaced (eqb (number_of r) 8) (Err r) other (λ _. tt) (λ _. e)

module _ (p : Position) (fits : FitsPosition p) (time : ℕ) (h : time < 2 ^ 64) where
  found_fits : (s : Spot) → FitsSpot s → FitsPosition (found_at s time)
  unfolding meant_position
  found_fits s e = record { latitude = e.latitude; longitude = e.longitude; time = h; meant = refl }

  settled_fits : (found : Result Spot Refusal) → FitsFound found → FitsPlaced (settled found p time)
  settled_fits (Ok s) e = found_fits s e
  settled_fits (Err r) e = passed_on_fits r (Ok p) fits

  module _ (size : Size) (counts : Counts) (format : Format) where
    read_near_fits : (reference : Spot) (k : Turn) → FitsPlaced (read_near reference p size counts k format time)
    unfolding read_near
    read_near_fits reference k = settled_fits (singly (count_size size) reference counts k format) (singly_fits size reference counts k format)

    read_singly_fits : FitsPlaced (read_singly p size counts format time)
    unfolding read_singly
    read_singly_fits = by_test FitsPlaced (is_fresh p time) _ (Ok p) (λ _. read_near_fits p.spot turn.Airborne) (λ _. fits)

    after_pair_fits : (found : Result Spot Refusal) → FitsFound found → FitsPlaced (after_pair found p size counts format time)
    after_pair_fits (Ok s) e = found_fits s e
    after_pair_fits (Err r) e = passed_on_fits r (read_singly p size counts format time) read_singly_fits

  paired_with_fits : (partner : Counts) (size : Size) (counts : Counts) (format : Format) → FitsFound (paired_with partner size counts format)
  unfolding paired_with
  paired_with_fits partner size counts Even = paired_fits size counts partner Even
  paired_with_fits partner size counts Odd = paired_fits size partner counts Odd

  airborne_placed : (partner : Saved) (size : Size) (counts : Counts) (format : Format) → FitsPlaced (airborne_position p partner size counts format time)
  unfolding airborne_position
  airborne_placed partner size counts format =
      by_test FitsPlaced (is_partner partner size time) _ _
      (λ _. after_pair_fits size counts format (paired_with partner.counts size counts format) (paired_with_fits partner.counts size counts format))
      (λ _. read_singly_fits size counts format)

  surface_placed : (site : Site) (counts : Counts) (format : Format) → FitsPlaced (surface_position p site counts format time)
  unfolding surface_position
  surface_placed site counts format =
      by_test FitsPlaced (is_fresh p time) _ _
      (λ _. read_near_fits Fine counts format p.spot turn.Surface)
      (λ _. by_test FitsPlaced site.known _ (Ok p) (λ _. read_near_fits Fine counts format site.spot turn.Surface) (λ _. fits))

  airborne_fits : (partner : Saved) (size : Size) (counts : Counts) (format : Format) → FitsPosition (placed_or (airborne_position p partner size counts format time) p)
  airborne_fits partner size counts format = placed_or_fits (airborne_position p partner size counts format time) p (airborne_placed partner size counts format) fits

  surface_fits : (site : Site) (counts : Counts) (format : Format) → FitsPosition (placed_or (surface_position p site counts format time) p)
  surface_fits site counts format = placed_or_fits (surface_position p site counts format time) p (surface_placed site counts format) fits

-- ---- the two saved ones

record FitsTwo (xs : List Saved) : Type 0 where
  two : length xs ≡ 2
  even : FitsSaved (get_or xs 0 no_saved)
  odd : FitsSaved (get_or xs 1 no_saved)

taken_fits : (coarse : Bool) (c : Counts) (time : ℕ) → c.latitude.0 < count_size (size_of coarse) → c.longitude.0 < count_size (size_of coarse)
    → time < 2 ^ 64 → FitsSaved (record { known = true; coarse = coarse; counts = c; time = time })
unfolding meant_saved
taken_fits coarse c time x y h = record { latitude = x; longitude = y; time = h; meant = refl }

set_fits : (xs : List Saved) (i : ℕ) (v : Saved) → FitsTwo xs → i < 2 → FitsSaved v → FitsTwo (set xs i v)
set_fits [] i v f l e = let z : ⊥ = omega (arith, f.two) in absurd z
set_fits (x ∷ []) i v f l e = let z : ⊥ = omega (arith, f.two) in absurd z
set_fits (x ∷ y ∷ zs) zero v f l e = record { two = f.two; even = e; odd = f.odd }
set_fits (x ∷ y ∷ zs) (suc zero) v f l e = record { two = f.two; even = f.even; odd = e }
set_fits (x ∷ y ∷ zs) (suc (suc i)) v f l e = let z : ⊥ = omega arith in absurd z

-- ---- the track

two_of : (t : Track) → Fits t → FitsTwo t.saved
two_of t f = record { two = f.two; even = f.even; odd = f.odd }

track_fits_lem : (t : Track) → t.heard < 2 ^ 64 → FitsGroups t.groups → FitsPosition t.position → FitsTwo t.saved → Fits t
track_fits_lem t h g p s = record { heard = h; groups = g; position = p; two = s.two; even = s.even; odd = s.odd }

pub new_fits : Fits new_track
unfolding meant_groups
new_fits =
    record {
      heard = omega arith;
      groups = record { identification = omega arith; velocity = omega arith; surface = omega arith; status = omega arith; pressure = omega arith; height = omega arith; typecode = omega arith; meant = refl };
      position = no_position_fits;
      two = refl;
      even = none_fits;
      odd = none_fits;
    }

pressure_fits : (g : Groups) (altitude : ℕ) → FitsGroups g → altitude < 2 ^ 12 → FitsGroups (at_pressure g altitude)
pressure_fits g altitude f h =
    record { identification = f.identification; velocity = f.velocity; surface = f.surface; status = f.status; pressure = h; height = f.height; typecode = f.typecode; meant = pressure_meant g f.meant altitude }

reported_fits : (g : Groups) (altitude : ℕ) → FitsGroups g → altitude < 2 ^ 12 → FitsGroups (reported g altitude)
reported_fits g altitude f h =
    by_test (λ (n : ℕ). FitsGroups (at_pressure g n)) (eqb altitude 0) g.pressure altitude
    (λ _. pressure_fits g g.pressure f f.pressure)
    (λ _. pressure_fits g altitude f h)

high_fits : (g : Groups) (type altitude : ℕ) → FitsGroups g → altitude < 2 ^ 12 → FitsGroups (high g type altitude)
high_fits g type altitude f h =
    by_test FitsGroups (leb type 18) (at_pressure g altitude) (at_height g altitude)
    (λ _. pressure_fits g altitude f h)
    (λ _. record { identification = f.identification; velocity = f.velocity; surface = f.surface; status = f.status; pressure = f.pressure; height = h; typecode = f.typecode; meant = height_meant g f.meant altitude })

positioned_fits : (g : Groups) (type : ℕ) (bit8 : Bool) → FitsGroups g → type < 2 ^ 5 → FitsGroups (positioned g type bit8)
positioned_fits g type bit8 f h =
    record { identification = f.identification; velocity = f.velocity; surface = f.surface; status = f.status; pressure = f.pressure; height = f.height; typecode = h; meant = positioned_meant g f.meant type bit8 }

module _ (t : Track) (f : Fits t) (site : Site) (time : ℕ) (h : time < 2 ^ 64) where
  group_fits : (g : Groups) → FitsGroups g → Fits (group_track t g time)
  unfolding group_track
  group_fits g e = record { heard = h; groups = e; position = f.position; two = f.two; even = f.even; odd = f.odd }

  surface_track_fits : (b : Surface) (me : ℕ) → me < 2 ^ 56 → gives_surface me ≡ true → b.typecode < 2 ^ 5 → Fits (surface_track t b me site time)
  unfolding surface_track
  surface_track_fits b me e q p =
      let g = f.groups in
      record {
        heard = h;
        groups =
            positioned_fits _ b.typecode false
            (record { identification = g.identification; velocity = g.velocity; surface = e; status = g.status; pressure = g.pressure; height = g.height; typecode = g.typecode; meant = surface_meant t.groups g.meant me q }) p;
        position = surface_fits t.position f.position time h site (record { latitude = b.latitude; longitude = b.longitude }) (format_of b.f);
        two = refl;
        even = none_fits;
        odd = none_fits;
      }

  saved_track_fits : (g : Groups) (coarse : Bool) (i : ℕ) (c : Counts) → FitsGroups g → i < 2 → c.latitude.0 < count_size (size_of coarse) → c.longitude.0 < count_size (size_of coarse)
      → Fits (saved_track t g coarse i c time)
  unfolding saved_track
  saved_track_fits g coarse i c e l x y =
      track_fits_lem _ h e
      (airborne_fits t.position f.position time h (get_or t.saved (1 - i) no_saved) (size_of coarse) c (format_of i))
      (set_fits t.saved i (record { known = true; coarse = coarse; counts = c; time = time }) (two_of t f) l (taken_fits coarse c time x y h))

  moving_fits : (coarse : Bool) (me : ℕ) → me < 2 ^ 56 → gives_velocity coarse me ≡ true → FitsGroups (moving t.groups coarse me)
  moving_fits coarse me l e =
      let g = f.groups in
      record { identification = g.identification; velocity = l; surface = g.surface; status = g.status; pressure = g.pressure; height = g.height; typecode = g.typecode; meant = moving_meant t.groups g.meant coarse me e }

  body_fits_lem : (b : Body) → body_fits b ≡ true → Fits (step_body t b (body_me b) site time)
  body_fits_lem (body.Identification b) e =
      let g = f.groups in
      group_fits _ (record { identification = me_lt (body.Identification b) e; velocity = g.velocity; surface = g.surface; status = g.status; pressure = g.pressure; height = g.height; typecode = g.typecode; meant = identified_meant t.groups g.meant _ (gives_identification_lem b e) })
  body_fits_lem (body.Surface b) e = surface_track_fits b (body_me (body.Surface b)) (me_lt (body.Surface b) e) (gives_surface_lem b e) (fitting (body.Surface b) e).0
  body_fits_lem (body.Airborne b) e =
      let w₁ = fitting (body.Airborne b) e in
      let w = w₁.1.1.1 in
      by_test Fits (eqb b.typecode 0) _ _
      (λ _. group_fits _ (reported_fits t.groups b.altitude f.groups w.0))
      (λ _.
      saved_track_fits _ false b.f (counts_in b)
      (positioned_fits _ b.typecode (eqb b.bit8 1) (high_fits t.groups b.typecode b.altitude f.groups w.0) w₁.0) w.1.1.0 w.1.1.1.0 w.1.1.1.1.0)
  body_fits_lem (body.Ground b) e = group_fits _ (moving_fits false _ (me_lt (body.Ground b) e) (gives_ground b e))
  body_fits_lem (body.Air b) e = group_fits _ (moving_fits false _ (me_lt (body.Air b) e) (gives_air b e))
  body_fits_lem (body.Status b) e =
      let g = f.groups in
      group_fits _ (record { identification = g.identification; velocity = g.velocity; surface = g.surface; status = me_lt (body.Status b) e; pressure = g.pressure; height = g.height; typecode = g.typecode; meant = stating_meant t.groups g.meant _ (gives_status_lem b e) })
  body_fits_lem (body.Coarse b) e =
      let w = (fitting (body.Coarse b) e).1.1.1 in
      let p = w.1.1.1.1 in
      saved_track_fits _ true b.f _ (pressure_fits _ b.altitude (moving_fits true _ (me_lt (body.Coarse b) e) refl) w.0) p.0 p.1.0 p.1.1.0

  pub stepped_fits : (answer : Result Message Refusal) → Fits (stepped t answer site time).track
  stepped_fits (Err r) = f
  stepped_fits (Ok m) =
      by_test (λ (s : Stepped). Fits s.track) (body_fits m.body) _ _ (λ e. body_fits_lem m.body e) (λ _. f)
