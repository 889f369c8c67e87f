-- Arrays laid out entry by entry, or part by part: each list of entries is the array that was handed over, whose length its definition has.
-- Assumes nothing.
use Rattle.std.specs.Prelude.{Result, Ok, Err}
use Prim.Native.Nat.{ℕ, ◌≤◌}
use mathlib.Core.Path.{◌≡◌, refl, sym, ap, ap₂, ◌∙◌}
use mathlib.Core.Bool.{Bool, true, false}
use mathlib.Core.List.{List, [], ◌∷◌, ◌++◌}
use native.Mathlib.Omega.{arith}
use lib.ListN.{length, get_or, length-append, replicate}
use borrow.Rule.Slice.PartMut.{mid_of, put_mid}
use Rattle.fields.proofs.Bools.{by_test}
use Rattle.entries.specs.Arrays.{filled}
use Rattle.entries.specs.Twos.{twos}
use Rattle.entries.specs.Means.{bit, altitude_reading, step_reading}
use Rattle.readings.specs.Altitude.{altitude_of}
use Rattle.whereabouts.specs.declared.Saved.{Saved}
use Rattle.track.specs.Track.{no_saved}
use Rattle.keys.specs.declared.Kind.{Kind}
use Rattle.keys.specs.Keys.{is_traffic, is_coarse, kind_in}
use Rattle.integrity.specs.Integrity.{integrity_of}
use Rattle.integrity.specs.Standard.{version_of, supplements_of}
use Rattle.entries.specs.declared.Reading.{Reading}
use Rattle.track.specs.declared.Track.{Track}
use Rattle.rows.specs.Same.{entries}
use Rattle.track_rows.specs.Shown.{row_in, known_at, reading_at, unknown, is_of, named, source, moving, on_ground, taxiing, going, is_saved, shown}
use Rattle.track_rows.specs.Standard.{version_number, supplement_bits, integrity_reading, standard_row}
use Rattle.track_rows.specs.Tracks.{kept_row, track_row}
use Rattle.rows.proofs.Cutting.{chosen, entries_all}
use Rattle.rows.proofs.Laid.{put_length, parts}
use Rattle.integrity.specs.declared.standard.Bits.{Bits}
use Rattle.refusals.specs.declared.Refusal.{Refusal}

-- ---- what people are shown

source_length : (traffic : Bool) (row : List ℕ) → length (source traffic row) ≡ 2
unfolding source
source_length true row = refl
source_length false row = refl

module _ (traffic : Bool) (row s : List ℕ) (e : s ≡ source traffic row) where
  source_is : entries 0 2 s ≡ source traffic row
  source_is = entries_all 2 s (ap length e ∙ source_length traffic row) ∙ e

  pub over_ground : is_of 4 row ≡ true → reading_at row 0 ++ (reading_at row 1 ++ (unknown 4 ++ (reading_at row 2 ++ entries 0 2 s))) ≡ moving traffic row
  unfolding moving
  over_ground h = ap (λ (x : List ℕ). reading_at row 0 ++ (reading_at row 1 ++ (unknown 4 ++ (reading_at row 2 ++ x)))) source_is ∙ sym (chosen (is_of 4 row) _ _ h)

  pub through_air : is_of 4 row ≡ false → is_of 5 row ≡ true
      → unknown 2 ++ (reading_at row 0 ++ (known_at row 5 ++ (reading_at row 1 ++ (known_at row 7 ++ (reading_at row 2 ++ entries 0 2 s))))) ≡ moving traffic row
  unfolding moving
  through_air n h =
      ap (λ (x : List ℕ). unknown 2 ++ (reading_at row 0 ++ (known_at row 5 ++ (reading_at row 1 ++ (known_at row 7 ++ (reading_at row 2 ++ x)))))) source_is
      ∙ rw (n, h)

module _ (row : List ℕ) where
  abbrev Of : ℕ → List ℕ → Type 0
  Of n l = length l ≡ n

  named_length : length (named row) ≡ 6
  unfolding named
  named_length = by_test (Of 6) (is_of 1 row) _ _ (λ _. refl) (λ _. refl)

  moving_length : (traffic : Bool) → length (moving traffic row) ≡ 16
  unfolding moving
  moving_length traffic =
      let s = source_length traffic row in
      by_test (Of 16) (is_of 4 row) _ _ (λ _. omega arith)
      (λ _. by_test (Of 16) (is_of 5 row) _ _ (λ _. omega arith) (λ _. refl))

  ground_length : (encoded : Bool) → length (on_ground encoded row) ≡ 2
  unfolding on_ground
  ground_length encoded = by_test (Of 2) encoded _ _ (λ _. refl) (λ _. by_test (Of 2) (is_of 2 row) _ _ (λ _. refl) (λ _. refl))

  taxiing_length : length (taxiing row) ≡ 6
  unfolding taxiing
  taxiing_length = by_test (Of 6) (is_of 2 row) _ _ (λ _. refl) (λ _. refl)

  going_length : length (going row) ≡ 6
  unfolding going
  going_length = by_test (Of 6) (is_of 7 row) _ _ (λ _. refl) (λ _. refl)

whole : (k : ℕ) (l meant : List ℕ) → l ≡ meant → length meant ≡ k → entries 0 k l ≡ meant
whole k l meant e h = entries_all k l (ap length e ∙ h) ∙ e

module _ (kind : Kind) (t : Track) where
  abbrev traffic : Bool
  traffic = is_traffic kind

  abbrev identification : List ℕ
  identification = row_in false traffic t.groups.identification

  abbrev velocity : List ℕ
  velocity = row_in (is_coarse kind) traffic t.groups.velocity

  abbrev surface : List ℕ
  surface = row_in false traffic t.groups.surface

  pub shows : (n m o s a : List ℕ) → n ≡ named identification → m ≡ moving traffic velocity → o ≡ on_ground (is_saved t) surface → s ≡ taxiing surface → a ≡ going velocity
      → entries 0 6 n ++ (entries 0 16 m ++ (entries 0 2 o ++ (entries 0 6 s ++ entries 0 6 a))) ≡ shown kind t
  unfolding shown
  shows n m o s a p q r e f =
      ap₂ (λ (x y : List ℕ). x ++ y) (whole 6 n _ p (named_length identification))
      (ap₂ (λ (x y : List ℕ). x ++ y) (whole 16 m _ q (moving_length velocity traffic))
      (ap₂ (λ (x y : List ℕ). x ++ y) (whole 2 o _ r (ground_length surface (is_saved t)))
      (ap₂ (λ (x y : List ℕ). x ++ y) (whole 6 s _ e (taxiing_length surface)) (whole 6 a _ f (going_length velocity)))))

  shown_length : length (shown kind t) ≡ 36
  unfolding shown
  shown_length =
      let i : List ℕ = named identification in
      let v : List ℕ = moving traffic velocity in
      let o : List ℕ = on_ground (is_saved t) surface in
      let s : List ℕ = taxiing surface in
      let a : List ℕ = going velocity in
      omega (
        arith,
        length-append i (v ++ (o ++ (s ++ a))),
        length-append v (o ++ (s ++ a)),
        length-append o (s ++ a),
        length-append s a,
        named_length identification,
        moving_length velocity traffic,
        ground_length surface (is_saved t),
        taxiing_length surface,
        going_length velocity,
      )

-- ---- the row of a track

module _ (t : Track) where
  abbrev even : Saved
  even = get_or t.saved 0 no_saved

  abbrev odd : Saved
  odd = get_or t.saved 1 no_saved

  pub keeps : (bit8 known latitude e o : ℕ) (pressure step height height-step : Reading)
      → bit8 ≡ bit t.groups.bit8 → known ≡ bit t.position.known → latitude ≡ twos t.position.spot.latitude → e ≡ bit even.known → o ≡ bit odd.known
      → pressure ≡ altitude_reading (altitude_of t.groups.pressure) → step ≡ step_reading (altitude_of t.groups.pressure)
      → height ≡ altitude_reading (altitude_of t.groups.height) → height-step ≡ step_reading (altitude_of t.groups.height)
      → 1 ∷ t.heard ∷ t.groups.identification ∷ t.groups.velocity ∷ t.groups.surface ∷ t.groups.status ∷ t.groups.pressure ∷ t.groups.height ∷
      t.groups.typecode ∷ bit8 ∷
      known ∷ latitude ∷ t.position.spot.longitude ∷ t.position.time ∷
      e ∷ even.counts.latitude.0 ∷ even.counts.longitude.0 ∷ even.time ∷
      o ∷ odd.counts.latitude.0 ∷ odd.counts.longitude.0 ∷ odd.time ∷
      pressure.what ∷ pressure.value ∷ step.what ∷ step.value ∷ height.what ∷ height.value ∷ height-step.what ∷ height-step.value ∷ [] ≡ kept_row t
  unfolding kept_row
  keeps bit8 known latitude e o pressure step height height-step a b c d f g h i j = rw (a, b, c, d, f, g, h, i, j)

kept_length : (t : Track) → length (kept_row t) ≡ 30
unfolding kept_row
kept_length t = refl

bits_length : (s : Result Bits Refusal) → length (supplement_bits s) ≡ 3
bits_length (Ok s) = refl
bits_length (Err r) = refl

module _ (kind : Kind) (t : Track) where
  abbrev supplementing : Result Bits Refusal
  supplementing = supplements_of kind t.groups.status t.groups.bit8

  -- its version, the three supplements, and the integrity as a reading
  pub standing : (v : ℕ) (s : List ℕ) (r : Reading) → v ≡ version_number (version_of kind t.groups.status) → s ≡ supplement_bits supplementing
      → r ≡ integrity_reading (integrity_of kind t.groups.status t.groups.typecode t.groups.bit8)
      → v ∷ (entries 0 3 s ++ (r.what ∷ r.value ∷ [])) ≡ standard_row kind t
  unfolding standard_row
  standing v s r p q e =
      ap₂ (λ (n : ℕ) (l : List ℕ). n ∷ l) p
      (ap₂ (λ (l : List ℕ) (x : Reading). l ++ (x.what ∷ x.value ∷ [])) (whole 3 s (supplement_bits supplementing) q (bits_length supplementing)) e)

  standard_length : length (standard_row kind t) ≡ 6
  unfolding standard_row
  standard_length =
      let r = integrity_reading (integrity_of kind t.groups.status t.groups.typecode t.groups.bit8) in
      omega (arith, length-append (supplement_bits supplementing) (r.what ∷ r.value ∷ []), bits_length supplementing)

abbrev blank : List ℕ
blank = replicate 72 0

-- kept, shown and standard fill the three parts of an array of zeros, and each part lies within it
module _ (k s i h f r : List ℕ) where
  abbrev one : List ℕ
  one = put_mid 0 30 blank h

  abbrev two : List ℕ
  two = put_mid 30 36 one f

  pub second_within : h ≡ filled (length (mid_of 0 30 blank)) k → 66 ≤ length one
  second_within p = omega (arith, put_length 0 30 blank k h p)

  pub third_within : h ≡ filled (length (mid_of 0 30 blank)) k → f ≡ filled (length (mid_of 30 36 one)) s → 72 ≤ length two
  third_within p q = omega (arith, put_length 0 30 blank k h p, put_length 30 36 one s f q)

  pub joined : (key : ℕ) (t : Track) (kind : Kind) → kind ≡ kind_in key → k ≡ kept_row t → s ≡ shown kind t → i ≡ standard_row kind t
      → h ≡ filled (length (mid_of 0 30 blank)) k → f ≡ filled (length (mid_of 30 36 one)) s → r ≡ filled (length (mid_of 66 6 two)) i → put_mid 66 6 two r ≡ track_row key t
  unfolding track_row
  joined key t kind e a b c p q m =
      parts 30 36 6 blank refl h f r k s i (ap length a ∙ kept_length t) (ap length b ∙ shown_length kind t) (ap length c ∙ standard_length kind t) p q m
      ∙ ap₂ (λ (x y : List ℕ). x ++ y) a (ap₂ (λ (x y : List ℕ). x ++ y) b c ∙ ap (λ (z : Kind). shown z t ++ standard_row z t) e)
