-- No reading in a row is a refusal, of a track with codes of 12 bits, MEs of 56 and a TYPE of 5: what its MEs say is none, and only a refusal is 5.
-- Assumes nothing.
use Rattle.std.specs.Prelude.{Result, Ok, Err}
use Prim.Native.Nat.{ℕ, suc, ◌^◌, ◌<◌}
use mathlib.Core.Path.{◌≡◌, refl, subst⁻¹}
use mathlib.Core.Bool.{Bool, true, false}
use mathlib.Core.List.{List, [], ◌∷◌, ◌++◌}
use native.Mathlib.Omega.{arith}
use lib.ListN.{get_or}
use borrow.Author.Tests.{eqb-true, lt-leb}
use Rattle.fields.proofs.Bools.{by_test}
use Rattle.layouts.specs.declared.bodies.Layout.{Layout}
use Rattle.layouts.specs.declared.bodies.Layout.TheVariants as layout
use Rattle.layouts.specs.Bodies.{layout_by, is_taken}
use Rattle.readings.specs.Altitude.{altitude_of}
use Rattle.readings.proofs.Promised.{altitude_known}
use Rattle.entries.proofs.Refusing.{altitude_given}
use Rattle.refusals.specs.Said.{gives}
use Rattle.keys.specs.declared.Kind.{Kind}
use Rattle.keys.specs.Keys.{is_traffic, is_coarse}
use Rattle.integrity.specs.declared.Integrity.{Integrity}
use Rattle.integrity.specs.declared.Integrity.TheVariants as integrity
use Rattle.integrity.specs.Integrity.{integrity_of}
use Rattle.integrity.specs.Standard.{version_of, supplements_of}
use Rattle.integrity.specs.Said.{Level, integrity_said}
use Rattle.integrity.proofs.Promised.{integrity_says}
use Rattle.track.specs.declared.Track.{Track}
use Rattle.rows.specs.Rows.{layout_number, row_of, NoneRefused, EachGiven}
use Rattle.track_rows.specs.Standard.{version_number, supplement_bits, integrity_reading, standard_row}
use Rattle.track_rows.specs.Shown.{row_in, is_of, named, source, moving, on_ground, taxiing, going, is_saved, shown}
use Rattle.track_rows.specs.Tracks.{kept_row, track_row}
use Rattle.rows.proofs.Refusing.{step_given, me_never_refused}
use Rattle.integrity.specs.declared.standard.Bits.{Bits}
use Rattle.refusals.specs.declared.Refusal.{Refusal}

-- ---- a track

kept_given : (t : Track) → t.groups.pressure < 4096 → t.groups.height < 4096
    → (get_or (kept_row t) 22 0 < 5) × (get_or (kept_row t) 24 0 < 5) × (get_or (kept_row t) 26 0 < 5) × (get_or (kept_row t) 28 0 < 5)
unfolding kept_row
kept_given t p h =
    let pressure = altitude_of t.groups.pressure in
    let height = altitude_of t.groups.height in
    let g = altitude_given pressure (altitude_known t.groups.pressure p) in
    let k = altitude_given height (altitude_known t.groups.height h) in
    (g, step_given pressure g, k, step_given height k)

each_append : (a b : List ℕ) → EachGiven a → EachGiven b → EachGiven (a ++ b)
each_append [] b g h = h
each_append (w ∷ []) b g h = absurd g
each_append (w ∷ v ∷ a) b g h = (g.0, each_append a b g.1 h)

some_layout : (l : Layout) (k : ℕ) → layout_number l ≡ suc k → is_taken l ≡ true
some_layout layout.Identification k e = refl
some_layout layout.Surface k e = refl
some_layout layout.Airborne k e = refl
some_layout layout.Ground k e = refl
some_layout layout.Air k e = refl
some_layout layout.Status k e = refl
some_layout layout.Coarse k e = refl
some_layout layout.NotTaken k e = let z : ⊥ = omega arith in absurd z

module _ (traffic : Bool) where
  -- the row of an ME that is of a layout
  row_given : (coarse : Bool) (n k : ℕ) → n < 2 ^ 56 → is_of (suc k) (row_in coarse traffic n) ≡ true → NoneRefused (row_in coarse traffic n)
  unfolding row_of
  row_given coarse n k h e = me_never_refused coarse n traffic h (some_layout (layout_by coarse n) k (eqb-true _ _ e))

  named_given : (n : ℕ) → n < 2 ^ 56 → EachGiven (named (row_in false traffic n))
  unfolding named
  named_given n h =
      by_test EachGiven (is_of 1 (row_in false traffic n)) _ _
      (λ e. let g = row_given false n 0 h e in (g.1, (g.0, (omega arith, tt))))
      (λ _. (omega arith, (omega arith, (omega arith, tt))))

  source_given : (row : List ℕ) → EachGiven (source traffic row)
  unfolding source
  source_given row = by_test EachGiven traffic _ _ (λ _. (omega arith, tt)) (λ _. (omega arith, tt))

  moving_given : (coarse : Bool) (n : ℕ) → n < 2 ^ 56 → EachGiven (moving traffic (row_in coarse traffic n))
  unfolding moving
  moving_given coarse n h =
      by_test EachGiven (is_of 4 (row_in coarse traffic n)) _ _
      (λ e. let g = row_given coarse n 3 h e in (g.0, (g.1, (omega arith, (omega arith, (omega arith, (omega arith, (g.2, source_given (row_in coarse traffic n)))))))))
      (λ _. by_test EachGiven (is_of 5 (row_in coarse traffic n)) _ _
      (λ e. let g = row_given coarse n 4 h e in (omega arith, (omega arith, (g.0, (omega arith, (g.1, (omega arith, (g.2, source_given (row_in coarse traffic n)))))))))
      (λ _. (omega arith, (omega arith, (omega arith, (omega arith, (omega arith, (omega arith, (omega arith, (omega arith, tt))))))))))

  ground_given : (encoded : Bool) (row : List ℕ) → EachGiven (on_ground encoded row)
  unfolding on_ground
  ground_given encoded row =
      by_test EachGiven encoded _ _ (λ _. (omega arith, tt))
      (λ _. by_test EachGiven (is_of 2 row) _ _ (λ _. (omega arith, tt)) (λ _. (omega arith, tt)))

  taxiing_given : (n : ℕ) → n < 2 ^ 56 → EachGiven (taxiing (row_in false traffic n))
  unfolding taxiing
  taxiing_given n h =
      by_test EachGiven (is_of 2 (row_in false traffic n)) _ _
      (λ e. let g = row_given false n 1 h e in (g.0, (g.1, (omega arith, tt))))
      (λ _. (omega arith, (omega arith, (omega arith, tt))))

  going_given : (coarse : Bool) (n : ℕ) → n < 2 ^ 56 → EachGiven (going (row_in coarse traffic n))
  unfolding going
  going_given coarse n h =
      by_test EachGiven (is_of 7 (row_in coarse traffic n)) _ _
      (λ e. let g = row_given coarse n 6 h e in (g.2, (omega arith, (g.3, tt))))
      (λ _. (omega arith, (omega arith, (omega arith, tt))))

pub shown_never_refused : (kind : Kind) (t : Track) → t.groups.identification < 2 ^ 56 → t.groups.velocity < 2 ^ 56 → t.groups.surface < 2 ^ 56 → EachGiven (shown kind t)
unfolding shown
shown_never_refused kind t i v s =
    let traffic : Bool = is_traffic kind in
    let surface : List ℕ = row_in false traffic t.groups.surface in
    let velocity : List ℕ = row_in (is_coarse kind) traffic t.groups.velocity in
    let n : List ℕ = named (row_in false traffic t.groups.identification) in
    let m : List ℕ = moving traffic velocity in
    let o : List ℕ = on_ground (is_saved t) surface in
    let g : List ℕ = going velocity in
    each_append n (m ++ (o ++ (taxiing surface ++ g))) (named_given traffic t.groups.identification i)
    (each_append m (o ++ (taxiing surface ++ g)) (moving_given traffic (is_coarse kind) t.groups.velocity v)
    (each_append o (taxiing surface ++ g) (ground_given traffic (is_saved t) surface)
    (each_append (taxiing surface) g (taxiing_given traffic t.groups.surface s) (going_given traffic (is_coarse kind) t.groups.velocity v))))

pub track_never_refused : (key : ℕ) (t : Track) → t.groups.pressure < 4096 → t.groups.height < 4096
    → (get_or (track_row key t) 22 0 < 5) × (get_or (track_row key t) 24 0 < 5) × (get_or (track_row key t) 26 0 < 5) × (get_or (track_row key t) 28 0 < 5)
unfolding track_row kept_row
track_never_refused key t p h = kept_given t p h

-- .. nor is its integrity, of a TYPE and a status that are within their bits

integrity_given : (x : Result Integrity Refusal) (l : Level) → integrity_said x ≡ gives l → (integrity_reading x).what < 5
integrity_given (Ok integrity.Unknown) l e = omega arith
integrity_given (Ok (integrity.Nuc n)) l e = omega arith
integrity_given (Ok (integrity.Nic n)) l e = omega arith
integrity_given (Err r) l e = let z : ◌≡◌ {A = ℕ} 0 1 = cc in let f : ⊥ = omega arith in absurd f

-- where its reading stands
fifth : (v : ℕ) (s : Result Bits Refusal) (what value : ℕ) → get_or (v ∷ (supplement_bits s ++ (what ∷ value ∷ []))) 4 0 ≡ what
fifth v (Ok s) what value = refl
fifth v (Err r) what value = refl

pub standard_never_refused : (kind : Kind) (t : Track) → t.groups.typecode < 32 → t.groups.status < 2 ^ 56 → get_or (standard_row kind t) 4 0 < 5
unfolding standard_row
standard_never_refused kind t h g =
    let k = t.groups.typecode in
    let s = t.groups.status in
    let x = integrity_of kind s k t.groups.bit8 in
    let r = integrity_reading x in
    let said = rw (lt-leb 32 k h, lt-leb (2 ^ 56) s g) at (integrity_says kind s k t.groups.bit8) in
    subst⁻¹ (λ (n : ℕ). n < 5) (fifth (version_number (version_of kind s)) (supplements_of kind s t.groups.bit8) r.what r.value) (integrity_given x _ said)
