-- The rows of a table of bytes: their figures have at most 20 digits and stand on the globe. So our own listing is in the form, and agreement with a row is what RULES 14.4 says. By what fits a place, and the bounds of an altitude.
-- Assumes nothing.
use Rattle.std.specs.Prelude.{Some, None, Option, Result, Ok, Err}
use Prim.Native.Nat.{ℕ, zero, suc, ◌+◌, ◌-◌, ◌*◌, ◌%◌, ◌^◌, ◌≤◌, ◌<◌}
use native.Mathlib.Omega.{arith}
use mathlib.Core.Path.{◌≡◌, ap}
use mathlib.Core.Bool.{Bool, true, false, cond, ◌||◌}
use mathlib.Core.List.{List, [], ◌∷◌, ◌++◌}
use borrow.Author.Tests.{leb-true}
use lib.Dec.{ltb, eqb}
use lib.IntN.{ℤ, pos, negsuc, nat_abs, ◌-ℤ◌}
use lib.Signed.{mag}
use lib.ListN.{length, drop, length-append}
use Rattle.fields.specs.Packing.{wider}
use Rattle.fields.specs.Bytes.{Bytes}
use Rattle.fields.proofs.Bools.{by_test}
use Rattle.fields.proofs.Bytes.{bytes_take, bytes_drop}
use Rattle.keys.specs.Keys.{end_of_keys}
use Rattle.readings.specs.declared.altitude.Altitude.{Altitude}
use Rattle.refusals.specs.declared.Refusal.{Refusal}
use Rattle.readings.specs.Altitude.{altitude_at, altitude_of, five_hundreds, hundreds, straight, six_less, gray_step, eleven, bit}
use Rattle.memory.specs.Offsets.{body_size, body_start, places_in, clock_at}
use Rattle.memory.proofs.Numbers.{number_lt}
use Rattle.track.specs.declared.Track.{Track}
use Rattle.place.specs.Place.{Fits, track_of}
use Rattle.place.proofs.BothWays.{read_fits}
use Rattle.text.specs.declared.Row.{Row}
use Rattle.rules.specs.Form.{holds}
use Rattle.rules.specs.Search.{lowest}
use Rattle.rules.specs.View.{track_in, view_at}
use Rattle.table_bytes.specs.Layout.{clock_of, body_at}
use Rattle.table.specs.Bytes.{bytes}
use Rattle.table.specs.View.{view}
use Rattle.report.specs.Listing.{latitude_in, longitude_in, feet, step_in, row_of, row_for, as_list, rows_in, texts, header_for, listing}
use Rattle.report.specs.Walked.{rows_below}
use Rattle.report.proofs.Gathered.{rows_walked}
use Rattle.report.proofs.Keys.{rows_none, rows_next}
use Rattle.form.specs.Form.{pieces, body_form, in_form}
use Rattle.form.specs.Own.{Sized, Fitting}
use Rattle.form.proofs.OwnLines.{no_rows, row_then, header_then}
use Rattle.agree.specs.Ours.{OnGlobe, OnCircle, Placed}

-- ---- a position

mag_size : (z : ℤ) → nat_abs z ≤ 1073741824 → mag z < 4294967296
mag_size (pos n) h = omega arith
mag_size (negsuc n) h = omega arith

latitude_by : (z : ℤ) (t : Bool) → nat_abs z ≤ 1073741824 → Sized (cond t (Some z) None) × OnGlobe (cond t (Some z) None)
latitude_by z true h = (omega arith, mag_size z h)
latitude_by z false h = (tt, tt)

longitude_by : (n : ℕ) (t : Bool) → n < 2 ^ 32 → Sized (cond t (Some (pos n)) None) × OnCircle (cond t (Some (pos n)) None)
longitude_by n true h = (omega arith, h)
longitude_by n false h = (tt, tt)

-- ---- an altitude, of any code

abbrev Short : Result (Option Altitude) Refusal → Type 0
Short (Ok (Some a)) = (nat_abs a.feet < 10 ^ 20) × (a.step < 10 ^ 20)
Short (Ok None) = Unit {0}
Short (Err r) = Unit {0}

less_sized : (n k : ℕ) → n < 2 ^ 32 → k < 2 ^ 32 → nat_abs (pos n -ℤ pos k) < 10 ^ 20
less_sized n zero p q = omega arith
less_sized n (suc k) p q = by (ltb n (suc k))
  where
    by : (t : Bool) → nat_abs (cond t (negsuc (suc k - suc n)) (pos (n - suc k))) < 10 ^ 20
    by true = omega arith
    by false = omega arith

gray_most : (n g m : ℕ) → n < m → gray_step n g < m * 2
unfolding gray_step
gray_most n g m h = omega arith

five_most : (code : ℕ) → five_hundreds code < 256
unfolding five_hundreds
five_most code =
    gray_most _ _ 128 (gray_most _ _ 64 (gray_most _ _ 32 (gray_most _ _ 16 (gray_most _ _ 8 (gray_most _ _ 4 (gray_most _ _ 2 (gray_most 0 (bit 10 code) 1 (omega arith))))))))

hundreds_most : (code : ℕ) → hundreds code < 8
unfolding hundreds
hundreds_most code = gray_most _ _ 4 (gray_most _ _ 2 (gray_most 0 (bit 1 code) 1 (omega arith)))

by_hundreds_lem : (f h : ℕ) → f < 256 → h < 8 → nat_abs (pos (500 * f + 100 * six_less f (straight h)) -ℤ pos 1300) < 10 ^ 20
unfolding straight six_less
by_hundreds_lem f h p q =
    let s : cond (eqb h 7) 5 h < 8 = by_test (λ (n : ℕ). n < 8) (eqb h 7) 5 h (λ _. omega arith) (λ _. q) in
    let t : cond (eqb (f % 2) 1) (6 - cond (eqb h 7) 5 h) (cond (eqb h 7) 5 h) < 8 = by_test (λ (n : ℕ). n < 8) (eqb (f % 2) 1) (6 - cond (eqb h 7) 5 h) (cond (eqb h 7) 5 h) (λ _. omega arith) (λ _. s) in
    less_sized (500 * f + 100 * cond (eqb (f % 2) 1) (6 - cond (eqb h 7) 5 h) (cond (eqb h 7) 5 h)) 1300 (omega arith) (omega arith)

altitude_short : (code : ℕ) → Short (altitude_of code)
unfolding altitude_of altitude_at
altitude_short code =
    by_test Short (wider 12 code) _ _ (λ _. tt)
    (λ _. by_test (λ a. Short (Ok a)) (eqb code 0) _ _ (λ _. tt)
    (λ _. by_test (λ a. Short (Ok a)) (eqb (bit 8 code) 1) _ _ (λ _. (less_sized (25 * eleven code) 1000 (omega arith) (omega arith), omega arith))
    (λ _. by_test (λ a. Short (Ok a)) (eqb (hundreds code) 0 || eqb (hundreds code) 5 || eqb (hundreds code) 6) _ _ (λ _. tt)
    (λ _. (by_hundreds_lem (five_hundreds code) (hundreds code) (five_most code) (hundreds_most code), omega arith)))))

altitude_sized : (a : Result (Option Altitude) Refusal) → Short a → Sized (feet a) × Sized (step_in a)
unfolding feet step_in
altitude_sized (Ok (Some a)) p = (p.0, p.1)
altitude_sized (Ok None) p = (tt, tt)
altitude_sized (Err r) p = (tt, tt)

-- ---- a row

-- its figures have at most 20 digits, and stand on the globe
abbrev pub Ours : Row → Type 0
Ours r = Fitting r × Placed r

pub row_ours : (key : ℕ) (t : Track) → Fits t → Ours (row_of key t)
unfolding row_of latitude_in longitude_in
row_ours key t f =
    let y = latitude_by t.position.spot.latitude t.position.known (leb-true (nat_abs t.position.spot.latitude) 1073741824 f.position.latitude) in
    let x = longitude_by t.position.spot.longitude t.position.known f.position.longitude in
    let a = altitude_sized (altitude_of t.groups.pressure) (altitude_short t.groups.pressure) in
    (record { heard = omega (arith, f.heard); latitude = y.0; longitude = x.0; altitude = a.0; step = a.1 }, record { latitude = y.1; longitude = x.1 })

-- each of some rows is
pub data AllOurs : List Row → Type 0 where
  none_ours : AllOurs []
  one_ours : {r : Row} {rs : List Row} → Ours r → AllOurs rs → AllOurs (r ∷ rs)

ours_append : {a b : List Row} → AllOurs a → AllOurs b → AllOurs (a ++ b)
ours_append none_ours q = q
ours_append (one_ours p ps) q = one_ours p (ours_append ps q)

-- their texts are lines in the form
texts_form : {rs : List Row} → AllOurs rs → body_form (pieces 10 (texts rs)) ≡ true
unfolding texts
texts_form none_ours = no_rows
texts_form (one_ours {r = r} {rs = rs} p ps) = row_then r p.0 (texts rs) (texts_form ps)

-- ---- a table

module _ (s : List ℕ) (b : Bytes s) where
  body_fits_lem : (i : ℕ) → Fits (track_of (body_at s (places_in s) i))
  unfolding body_at
  body_fits_lem i = read_fits (body_at s (places_in s) i) (bytes_take body_size (drop (body_start (places_in s) i) s) (bytes_drop (body_start (places_in s) i) s b))

  -- the row of a key
  key_ours : (k : ℕ) → AllOurs (as_list (row_for true k (view s k)))
  unfolding row_for view_at
  key_ours k = by (lowest (λ i. holds (clock_of s) k (bytes.cell s i)) (places_in s)) (ltb (lowest (λ i. holds (clock_of s) k (bytes.cell s i)) (places_in s)) (places_in s))
    where
      by : (i : ℕ) (t : Bool) → AllOurs (as_list (row_for true k (track_in (cond t (Some (bytes.cell s i)) None))))
      by i true = one_ours (row_ours k (track_of (body_at s (places_in s) i)) (body_fits_lem i)) none_ours
      by i false = none_ours

  below_ours : (k : ℕ) → AllOurs (rows_below true s k)
  below_ours zero = rw (rows_none true s) none_ours
  below_ours (suc k) = rw (rows_next true s k) (ours_append (below_ours k) (key_ours k))

  pub rows_ours : AllOurs (rows_in true s)
  rows_ours = rw (rows_walked s true) (below_ours end_of_keys)

  one_most : (v : Option Row) → length (as_list v) ≤ 1
  one_most None = omega arith
  one_most (Some r) = omega arith

  below_most : (k : ℕ) → length (rows_below true s k) ≤ k
  below_most zero = rw (rows_none true s) (omega arith)
  below_most (suc k) = rw (rows_next true s k) (omega (arith, length-append (rows_below true s k) (as_list (row_for true k (view s k))), below_most k, one_most (row_for true k (view s k))))

  -- our own listing is in the form
  pub listing_in_form : (bad : ℕ) → bad < 2 ^ 64 → in_form (listing true s bad) ≡ true
  unfolding listing header_for
  listing_in_form bad h =
      header_then (clock_of s) (length (rows_in true s)) bad (omega (arith, number_lt 8 s clock_at b)) (omega (arith, below_most end_of_keys, ap length (rows_walked s true))) (omega (arith, h)) (texts (rows_in true s)) (texts_form rows_ours)
