-- A body and its track: what was written is read back, what is read fits, and what fits is written in range.
-- Each number of a body is read off its bytes by the one law of the width, and the values off their number by their bits.
-- Assumes nothing.
use Prim.Native.Nat.{ℕ, ◌+◌, ◌*◌, ◌-◌, ◌/◌, ◌%◌, ◌^◌, ◌<◌}
use mathlib.Core.Path.{◌≡◌, refl, ap, ap₂, ◌∙◌}
use mathlib.Core.Bool.{Bool, true, false}
use mathlib.Core.List.{List, [], ◌∷◌}
use native.Mathlib.Nat.{mod-eq_of_lt}
use native.Mathlib.Omega.{arith}
use lib.Dec.{eqb}
use lib.ListN.{length, get_or}
use borrow.Author.Tests.{le-leb, lt-ltb}
use Rattle.fields.specs.Bytes.{Bytes}
use Rattle.memory.specs.Offsets.{heard_at, identification_at, velocity_at, surface_at, status_at, marks_at, latitude_at, longitude_at, time_at, saved_time_at, even_at, odd_at}
use Rattle.positions.specs.Positions.{count_size}
use Rattle.whereabouts.specs.declared.Saved.{Saved}
use Rattle.whereabouts.specs.Located.{size_of}
use Rattle.track.specs.declared.Track.{Track}
use Rattle.track.specs.Track.{no_saved}
use Rattle.track.specs.Meaning.{meant_groups, meant_position, meant_saved, meant}
use Rattle.memory.specs.Bytes.{number_at, low_bytes}
use Rattle.place.specs.Place.{count_in, coarse_in, saved_from, groups_in, position_in, written_in, track_of, bit, above_pole, marks_of, saved_number, saved_bytes, message_bytes, spot_bytes, body_of, FitsSaved, FitsGroups, FitsPosition, Fits}
use Rattle.keys.specs.Keys.{is_key}
use Rattle.memory.specs.Ranges.{in_range, held}
use Rattle.memory.proofs.Numbers.{read_back, number_lt}
use Rattle.place.proofs.Meaning.{groups_meant_fits, saved_meant_fits, position_meant_fits}
use Rattle.place.proofs.Latitudes.{lowered_fits, above_pole_small, lowered_above}

-- ---- the numbers of a written body

module _ (t : Track) where
  at_heard : number_at 8 (body_of t) heard_at ≡ t.heard % 2 ^ 64
  unfolding body_of message_bytes spot_bytes saved_bytes number_at low_bytes
  at_heard = read_back 8 t.heard [] []

  at_identification : number_at 7 (body_of t) identification_at ≡ t.groups.identification % 2 ^ 56
  unfolding body_of message_bytes spot_bytes saved_bytes number_at low_bytes
  at_identification = read_back 7 t.groups.identification [] []

  at_velocity : number_at 7 (body_of t) velocity_at ≡ t.groups.velocity % 2 ^ 56
  unfolding body_of message_bytes spot_bytes saved_bytes number_at low_bytes
  at_velocity = read_back 7 t.groups.velocity [] []

  at_surface : number_at 7 (body_of t) surface_at ≡ t.groups.surface % 2 ^ 56
  unfolding body_of message_bytes spot_bytes saved_bytes number_at low_bytes
  at_surface = read_back 7 t.groups.surface [] []

  at_status : number_at 7 (body_of t) status_at ≡ t.groups.status % 2 ^ 56
  unfolding body_of message_bytes spot_bytes saved_bytes number_at low_bytes
  at_status = read_back 7 t.groups.status [] []

  at_marks : number_at 4 (body_of t) marks_at ≡ marks_of t.groups t.position.known % 2 ^ 32
  unfolding body_of message_bytes spot_bytes saved_bytes number_at low_bytes
  at_marks = read_back 4 (marks_of t.groups t.position.known) [] []

  at_latitude : number_at 4 (body_of t) latitude_at ≡ above_pole t.position.spot.latitude % 2 ^ 32
  unfolding body_of message_bytes spot_bytes saved_bytes number_at low_bytes
  at_latitude = read_back 4 (above_pole t.position.spot.latitude) [] []

  at_longitude : number_at 4 (body_of t) longitude_at ≡ t.position.spot.longitude % 2 ^ 32
  unfolding body_of message_bytes spot_bytes saved_bytes number_at low_bytes
  at_longitude = read_back 4 t.position.spot.longitude [] []

  at_time : number_at 8 (body_of t) time_at ≡ t.position.time % 2 ^ 64
  unfolding body_of message_bytes spot_bytes saved_bytes number_at low_bytes
  at_time = read_back 8 t.position.time [] []

  at_even : number_at 5 (body_of t) even_at ≡ saved_number (get_or t.saved 0 no_saved) % 2 ^ 40
  unfolding body_of message_bytes spot_bytes saved_bytes number_at low_bytes
  at_even = read_back 5 (saved_number (get_or t.saved 0 no_saved)) [] []

  at_even_time : number_at 8 (body_of t) (even_at + saved_time_at) ≡ (get_or t.saved 0 no_saved).time % 2 ^ 64
  unfolding body_of message_bytes spot_bytes saved_bytes number_at low_bytes
  at_even_time = read_back 8 (get_or t.saved 0 no_saved).time [] []

  at_odd : number_at 5 (body_of t) odd_at ≡ saved_number (get_or t.saved 1 no_saved) % 2 ^ 40
  unfolding body_of message_bytes spot_bytes saved_bytes number_at low_bytes
  at_odd = read_back 5 (saved_number (get_or t.saved 1 no_saved)) [] []

  at_odd_time : number_at 8 (body_of t) (odd_at + saved_time_at) ≡ (get_or t.saved 1 no_saved).time % 2 ^ 64
  unfolding body_of message_bytes spot_bytes saved_bytes number_at low_bytes
  at_odd_time = read_back 8 (get_or t.saved 1 no_saved).time [] []

-- ---- values packed into one number

eqb_bit : (k : Bool) → eqb (bit k) 1 ≡ k
eqb_bit true = refl
eqb_bit false = refl

bit_lt : (k : Bool) → bit k < 2
bit_lt true = omega arith
bit_lt false = omega arith

-- two counts and two marks
module _ (a b k c : ℕ) (ha : a < 2 ^ 17) (hb : b < 2 ^ 17) (hk : k < 2) (hc : c < 2) where
  abbrev four : ℕ
  four = (a % 131072 + b % 131072 * 131072 + k * 17179869184 + c * 34359738368) % 2 ^ 40

  saved_marks : (four / 17179869184 % 2 ≡ k) × (four / 34359738368 % 2 ≡ c)
  saved_marks = (omega arith, omega arith)

  saved_counts : (coarse : Bool) → a < count_size (size_of coarse) → b < count_size (size_of coarse) → (count_in coarse four ≡ a) × (count_in coarse (four / 131072) ≡ b)
  saved_counts true p q = (omega arith, omega arith)
  saved_counts false p q = (omega arith, omega arith)

-- the six values of the marks
module _ (a b k c d e : ℕ) (ha : a < 2 ^ 12) (hb : b < 2 ^ 12) (hk : k < 2) (hc : c < 2 ^ 5) (hd : d < 2) (he : e < 2) where
  abbrev whole : ℕ
  whole = (a % 4096 + b % 4096 * 4096 + k * 16777216 + c % 32 * 33554432 + d * 1073741824 + e * 2147483648) % 2 ^ 32

  marks_parts : (whole % 4096 ≡ a)
      × ((whole / 4096 % 4096 ≡ b) × ((whole / 16777216 % 2 ≡ k) × ((whole / 33554432 % 32 ≡ c) × ((whole / 1073741824 % 2 ≡ d) × (whole / 2147483648 % 2 ≡ e)))))
  marks_parts = (omega arith, (omega arith, (omega arith, (omega arith, (omega arith, omega arith)))))

-- a coarse count has 17 bits too
seventeen : (coarse : Bool) (n : ℕ) → n < count_size (size_of coarse) → n < 2 ^ 17
seventeen true n h = omega arith
seventeen false n h = omega arith

saved_back : (v : Saved) → FitsSaved v → saved_from (saved_number v % 2 ^ 40) (v.time % 2 ^ 64) ≡ v
unfolding saved_from saved_number
saved_back v f =
    let a = v.counts.latitude.0 in
    let b = v.counts.longitude.0 in
    let ha = seventeen v.coarse a f.latitude in
    let hb = seventeen v.coarse b f.longitude in
    let m = saved_marks a b (bit v.known) (bit v.coarse) ha hb (bit_lt v.known) (bit_lt v.coarse) in
    let e = saved_counts a b (bit v.known) (bit v.coarse) ha hb (bit_lt v.known) (bit_lt v.coarse) v.coarse f.latitude f.longitude in
    rw (m.0, m.1, eqb_bit v.known, eqb_bit v.coarse, e.0, e.1, mod-eq_of_lt f.time)

two_of : (xs : List Saved) → length xs ≡ 2 → get_or xs 0 no_saved ∷ get_or xs 1 no_saved ∷ [] ≡ xs
two_of [] e = let z : ⊥ = omega arith in absurd z
two_of (x ∷ []) e = let z : ⊥ = omega arith in absurd z
two_of (x ∷ y ∷ []) e = refl
two_of (x ∷ y ∷ z ∷ zs) e = let z : ⊥ = omega arith in absurd z

-- ---- what was written is read back

module _ (t : Track) (f : Fits t) where
  marks_back : let n = marks_of t.groups t.position.known % 2 ^ 32 in
      (n % 4096 ≡ t.groups.pressure)
      × ((n / 4096 % 4096 ≡ t.groups.height)
      × ((n / 16777216 % 2 ≡ bit t.position.known)
      × ((n / 33554432 % 32 ≡ t.groups.typecode)
      × ((n / 1073741824 % 2 ≡ bit t.groups.bit8) × (n / 2147483648 % 2 ≡ bit t.groups.coarse)))))
  unfolding marks_of
  marks_back =
      let g = f.groups in
      marks_parts _ _ _ _ _ _ g.pressure g.height (bit_lt t.position.known) g.typecode (bit_lt t.groups.bit8) (bit_lt t.groups.coarse)

  groups_back : groups_in (body_of t) ≡ t.groups
  unfolding groups_in
  groups_back =
      let g = f.groups in
      let e = marks_back in
      rw (at_identification t, at_velocity t, at_surface t, at_status t, at_marks t, e.0, e.1.0, e.1.1.1.0, e.1.1.1.1.0, e.1.1.1.1.1, eqb_bit t.groups.bit8, eqb_bit t.groups.coarse, mod-eq_of_lt g.identification, mod-eq_of_lt g.velocity, mod-eq_of_lt g.surface, mod-eq_of_lt g.status)

  position_back : position_in (body_of t) ≡ t.position
  unfolding position_in
  position_back =
      rw (at_marks t, at_latitude t, at_longitude t, at_time t, marks_back.1.1.0, eqb_bit t.position.known, lowered_above t.position.spot.latitude f.position.latitude, mod-eq_of_lt f.position.longitude, mod-eq_of_lt f.position.time)

  written_back : written_in (body_of t) ≡ t
  unfolding written_in
  written_back =
      let even = ap₂ saved_from (at_even t) (at_even_time t) ∙ saved_back (get_or t.saved 0 no_saved) f.even in
      let odd = ap₂ saved_from (at_odd t) (at_odd_time t) ∙ saved_back (get_or t.saved 1 no_saved) f.odd in
      rw (groups_back, position_back, at_heard t, mod-eq_of_lt f.heard, even, odd, two_of t.saved f.two)

  -- what fits means itself
  pub fits_meant : meant t ≡ t
  unfolding meant
  fits_meant = rw (f.groups.meant, f.position.meant, f.even.meant, f.odd.meant, two_of t.saved f.two)

  pub read_written : track_of (body_of t) ≡ t
  unfolding track_of
  read_written = ap meant written_back ∙ fits_meant

  -- ---- a written track is in range, and held at the time that it was heard

  pub written_in_range : (key : ℕ) → is_key key ≡ true → in_range key (body_of t) ≡ true
  unfolding in_range
  written_in_range key k =
      rw (k, at_latitude t, le-leb (above_pole t.position.spot.latitude % 2 ^ 32) 2147483648 (above_pole_small t.position.spot.latitude f.position.latitude))

  pub written_held : (key : ℕ) → is_key key ≡ true → held t.heard key (body_of t) ≡ true
  unfolding held
  written_held key k =
      rw (written_in_range key k, at_heard t, mod-eq_of_lt f.heard) (lt-ltb (t.heard - t.heard) 125000 (omega arith))

-- ---- any bytes read as a track that fits

count_lt : (coarse : Bool) (n : ℕ) → count_in coarse n < count_size (size_of coarse)
count_lt true n = omega arith
count_lt false n = omega arith

saved_fits : (n time : ℕ) → time < 2 ^ 64 → FitsSaved (meant_saved (saved_from n time))
unfolding saved_from
saved_fits n time h = saved_meant_fits (saved_from n time) (count_lt (coarse_in n) n) (count_lt (coarse_in n) (n / 131072)) h

module _ (p : List ℕ) (h : Bytes p) where
  groups_fit_lem : FitsGroups (meant_groups (groups_in p))
  unfolding groups_in
  groups_fit_lem = groups_meant_fits (groups_in p) (number_lt 7 p identification_at h) (number_lt 7 p velocity_at h) (number_lt 7 p surface_at h) (number_lt 7 p status_at h) (omega arith) (omega arith) (omega arith)

  position_fits : FitsPosition (meant_position (position_in p))
  unfolding position_in
  position_fits = position_meant_fits (position_in p) (lowered_fits (number_at 4 p latitude_at)) (number_lt 4 p longitude_at h) (number_lt 8 p time_at h)

  pub read_fits : Fits (track_of p)
  unfolding track_of written_in meant
  read_fits =
      record {
        heard = number_lt 8 p heard_at h;
        groups = groups_fit_lem;
        position = position_fits;
        two = refl;
        even = saved_fits (number_at 5 p even_at) (number_at 8 p (even_at + saved_time_at)) (number_lt 8 p (even_at + saved_time_at) h);
        odd = saved_fits (number_at 5 p odd_at) (number_at 8 p (odd_at + saved_time_at)) (number_lt 8 p (odd_at + saved_time_at) h);
      }
