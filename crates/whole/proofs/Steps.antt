-- The steps of the loops, and what each function gives, over plain variables: a place more, an entry more, and the lengths.
-- Assumes nothing.
use Rattle.std.specs.Prelude.{Some, None}
use Prim.Native.Nat.{ℕ, zero, suc, ◌+◌, ◌*◌, ◌/◌, ◌%◌, ◌<◌}
use native.Mathlib.Omega.{arith}
use native.Mathlib.Nat.{add-zero}
use native.Mathlib.Numerals.{add-one}
use mathlib.Core.Bool.{Bool, true, false, cond, ◌&&◌, ◌||◌}
use mathlib.Core.List.{List, [], ◌∷◌, ◌++◌, append-nil, append_assoc}
use mathlib.Core.Path.{◌≡◌, refl, sym, ap, ap₂, ◌∙◌}
use lib.Dec.{eqb}
use lib.IntN.{pos}
use lib.ListN.{length, take, drop, set, get_or, length-append, length-take}
use lib.Seq.{take-suc, get_or-take, take-append_seam, drop-append_seam}
use borrow.Author.Tests.{eqb-true, eqb-false}
use Rattle.order.specs.Sorted.{rising, sorted, firsts, over, entry_of, key_of}
use Rattle.order.specs.Facts.{All}
use Rattle.order.proofs.Firsts.{over_more}
use Rattle.order.proofs.Meaning.{rising_length, sorted_front}
use Rattle.memory.specs.Offsets.{heard_at, marks_at, latitude_at, longitude_at, key_start, places_in}
use Rattle.memory.specs.Bytes.{number_at}
use Rattle.memory.specs.Ranges.{held}
use Rattle.place.specs.Place.{lowered, groups_in, track_of, position_in, written_in}
use Rattle.track.specs.Meaning.{meant, meant_groups, meant_position}
use Rattle.whereabouts.specs.declared.Position.{Position}
use Rattle.whereabouts.specs.Located.{no_position}
use Rattle.rules.specs.Form.{is_held}
use Rattle.table_bytes.specs.Layout.{clock_of, key_at, body_at}
use Rattle.table_bytes.proofs.Scanned.{held_as}
use Rattle.table.specs.Bytes.{bytes}
use Rattle.text.specs.declared.Row.{Row}
use Rattle.text.specs.Lines.{line_room, row_text}
use Rattle.report.specs.Listing.{latitude_in, longitude_in, shown, row_from, row_of, row_for, as_list, texts}
use Rattle.report.proofs.Keys.{texts_append}
use Rattle.whole.specs.Whole.{room_for, entries_of, sorted_of, lowest_of, order_after}
use Rattle.whole.specs.Code.{place_of, track_at, row_at, rows_at, Within, Inside}

-- ---- the lengths

and_assoc : (a b c : Bool) → a && b && c ≡ a && (b && c)
and_assoc true b c = refl
and_assoc false b c = refl

whole_lines : (out m : ℕ) → eqb (out % line_room) 0 && eqb (out / line_room) (m + 1) ≡ eqb out (line_room * (m + 1))
whole_lines out m = by_tests (eqb (out % line_room) 0) (eqb (out / line_room) (m + 1)) (eqb out (line_room * (m + 1))) refl refl refl
  where
    by_tests : (a b t : Bool) → eqb (out % line_room) 0 ≡ a → eqb (out / line_room) (m + 1) ≡ b → eqb out (line_room * (m + 1)) ≡ t → a && b ≡ t
    by_tests true true true e f g = refl
    by_tests true true false e f g = absurd (eqb-false out (line_room * (m + 1)) g (omega (arith, eqb-true (out % line_room) 0 e, eqb-true (out / line_room) (m + 1) f)))
    by_tests true false true e f g = absurd (eqb-false (out / line_room) (m + 1) f (omega (arith, eqb-true out (line_room * (m + 1)) g)))
    by_tests true false false e f g = refl
    by_tests false b true e f g = absurd (eqb-false (out % line_room) 0 e (omega (arith, eqb-true out (line_room * (m + 1)) g)))
    by_tests false b false e f g = refl

pub room_is : (s : List ℕ) (order out : ℕ) {n : ℕ} → n ≡ places_in s → eqb order n && eqb (out % line_room) 0 && eqb (out / line_room) (n + 1) ≡ room_for s order out
unfolding room_for
room_is s order out {n} e =
    and_assoc (eqb order n) (eqb (out % line_room) 0) (eqb (out / line_room) (n + 1))
    ∙ ap (λ (b : Bool). eqb order n && b) (whole_lines out n)
    ∙ ap (λ (k : ℕ). eqb order k && eqb out (line_room * (k + 1))) e

-- ---- gathering

module _ (s : List ℕ) (i : ℕ) {n clock key : ℕ} {p : List ℕ} {h : Bool} (n-is : n ≡ places_in s) (clock_is : clock ≡ clock_of s)
    (key_is : key ≡ number_at 4 s (key_start i)) (body_is : p ≡ body_at s n i) (h-is : h ≡ held clock key p) where
  tested : h ≡ is_held (clock_of s) (bytes.cell s i)
  tested = rw (n-is, clock_is) at (held_as s n i clock key_is body_is h-is)

  entries_more : h ≡ true → entries_of s (i + 1) ≡ entries_of s i ++ (entry_of key i ∷ [])
  unfolding entries_of key_at
  entries_more y = rw (add-one i, ← tested, y, ← key_is)

  entries_same : h ≡ false → entries_of s (i + 1) ≡ entries_of s i
  unfolding entries_of
  entries_same y = rw (add-one i, ← tested, y) (append-nil (entries_of s i))

  module _ (order₀ : List ℕ) {order : List ℕ} {k : ℕ} (k-is : k ≡ length (entries_of s i)) (order_is : order ≡ over (entries_of s i) order₀) where
    pub gathered_one : h ≡ true → k < length order₀ → (k + 1 ≡ length (entries_of s (i + 1))) × (set order k (entry_of key i) ≡ over (entries_of s (i + 1)) order₀)
    gathered_one y l = (
      sym (ap length (entries_more y) ∙ length-append (entries_of s i) (entry_of key i ∷ []) ∙ ap (λ (j : ℕ). j + 1) (sym k-is)),
      ap₂ (λ (x : List ℕ) (j : ℕ). set x j (entry_of key i)) order_is k-is
          ∙ over_more (entries_of s i) order₀ (entry_of key i) (omega arith)
          ∙ ap (λ (u : List ℕ). over u order₀) (sym (entries_more y)),
    )

    pub gathered_none : h ≡ false → (k ≡ length (entries_of s (i + 1))) × (order ≡ over (entries_of s (i + 1)) order₀)
    gathered_none y =
        (k-is ∙ ap length (sym (entries_same y)), order_is ∙ ap (λ (u : List ℕ). over u order₀) (sym (entries_same y)))

pub gathered_start : (s order : List ℕ) → (0 ≡ length (entries_of s 0)) × (order ≡ over (entries_of s 0) order)
unfolding entries_of over
gathered_start s order = (refl, refl)

-- ---- in order

module _ (s a : List ℕ) {n k : ℕ} {b c d : List ℕ} (n-is : n ≡ places_in s) (b-is : b ≡ over (entries_of s n) a) (k-is : k ≡ length (entries_of s n))
    (c-is : c ≡ sorted k b) (d-is : d ≡ over (firsts (take k c)) c) where
  abbrev all : List ℕ
  all = entries_of s (places_in s)

  same : entries_of s n ≡ all
  same = ap (entries_of s) n-is

  front : take k b ≡ all
  unfolding over
  front = ap₂ take k-is b-is ∙ take-append_seam (entries_of s n) (drop (length (entries_of s n)) a) ∙ same

  behind : drop k b ≡ drop (length all) a
  unfolding over
  behind = ap₂ drop k-is b-is ∙ drop-append_seam (entries_of s n) (drop (length (entries_of s n)) a) ∙ ap (λ (l : List ℕ). drop (length l) a) same

  middle : c ≡ over (sorted_of s) a
  unfolding sorted over
  middle =
      c-is
      ∙ ap₂ (λ (x y : List ℕ). rising x ++ y) front behind
      ∙ ap (λ (j : ℕ). rising all ++ drop j a) (sym (rising_length all))

  taken : take k c ≡ sorted_of s
  taken = ap (take k) c-is ∙ sorted_front k b ∙ ap rising front

  pub sorted_all : {r : ℕ} → r ≡ length (firsts (take k c)) → (d ≡ order_after s a) × (r ≡ length (lowest_of s))
  unfolding order_after
  sorted_all r-is = (d-is ∙ ap₂ (λ (x y : List ℕ). over (firsts x) y) taken middle, r-is ∙ ap (λ (x : List ℕ). length (firsts x)) taken)

-- what the lines are written from
pub front_lowest : (s order₀ : List ℕ) {k : ℕ} {order : List ℕ} → k ≡ length (lowest_of s) → order ≡ order_after s order₀ → take k order ≡ lowest_of s
unfolding order_after over
front_lowest s order₀ k-is e = ap₂ take k-is e ∙ take-append_seam (lowest_of s) _

all_at : (P : ℕ → Type 0) (l : List ℕ) (j : ℕ) → All P l → j < length l → P (get_or l j 0)
all_at P [] j h l = absurd (omega arith)
all_at P (x ∷ xs) zero h l = h.0
all_at P (x ∷ xs) (suc j) h l = all_at P xs j h.1 (omega arith)

pub inside_lowest : (s : List ℕ) {k n : ℕ} {order : List ℕ} → take k order ≡ lowest_of s → k ≡ length (lowest_of s) → All (Within n) (lowest_of s) → Inside order k n
inside_lowest s {k} {n} {order} e k-is h =
    let l : length (take k order) ≡ k = ap length e ∙ sym k-is in
    record {
      many = omega (arith, length-take k order);
      each = λ j g.
          let q : get_or (lowest_of s) j 0 ≡ get_or order j 0 = ap (λ (x : List ℕ). get_or x j 0) (sym e) ∙ get_or-take k order j 0 g in
          rw q at (all_at (Within n) (lowest_of s) j h (omega arith));
    }

-- ---- an entry

kept : (x : Position) → (meant_position x).known ≡ x.known
unfolding meant_position
kept x = by_test x.known refl
  where
    by_test : (b : Bool) → x.known ≡ b → (cond b x no_position).known ≡ b
    by_test true e = e
    by_test false e = refl

known_read : (p : List ℕ) → (track_of p).position.known ≡ eqb (number_at 4 p marks_at / 16777216 % 2) 1
unfolding track_of meant written_in position_in
known_read p = kept (position_in p)

-- a position as it is meant is shown as it is written, whatever its time
latitude_kept : (x : Position) (time : ℕ) → latitude_in (record { known = x.known; spot = x.spot; time = time }) ≡ latitude_in (meant_position x)
unfolding latitude_in meant_position
latitude_kept x time = by_test x.known refl
  where
    by_test : (b : Bool) → x.known ≡ b → cond x.known (Some x.spot.latitude) None ≡ latitude_in (cond b x no_position)
    by_test true e = refl
    by_test false e = rw e

longitude_kept : (x : Position) (time : ℕ) → longitude_in (record { known = x.known; spot = x.spot; time = time }) ≡ longitude_in (meant_position x)
unfolding longitude_in meant_position
longitude_kept x time = by_test x.known refl
  where
    by_test : (b : Bool) → x.known ≡ b → cond x.known (Some (pos x.spot.longitude)) None ≡ longitude_in (cond b x no_position)
    by_test true e = refl
    by_test false e = rw e

-- the row of a place, from the values that a line needs
pub row_read : (key : ℕ) (p : List ℕ) (time : ℕ)
    → row_from key (number_at 8 p heard_at)
    (record { known = eqb (number_at 4 p marks_at / 16777216 % 2) 1; spot = record { latitude = lowered (number_at 4 p latitude_at); longitude = number_at 4 p longitude_at }; time = time })
    (number_at 4 p marks_at % 4096)
    ≡ row_of key (track_of p)
unfolding row_of track_of meant meant_groups written_in groups_in position_in
row_read key p time = rw (latitude_kept (position_in p) time, longitude_kept (position_in p) time)

pub shown_read : (all : Bool) (s : List ℕ) (n e : ℕ) {i marks : ℕ} {p : List ℕ} → i ≡ place_of e → p ≡ body_at s n i → marks ≡ number_at 4 p marks_at
    → all || eqb (marks / 16777216 % 2) 1 ≡ shown all (track_at s n e).position
shown_read all s n e {i} {marks} {p} i-is p-is m-is =
    ap (λ (m : ℕ). all || eqb (m / 16777216 % 2) 1) m-is
    ∙ ap (λ (b : Bool). all || b) (sym (known_read p))
    ∙ ap (λ (x : List ℕ). shown all (track_of x).position) (p-is ∙ ap (body_at s n) i-is)

-- ---- entries in a row

module _ (all : Bool) (s : List ℕ) (n : ℕ) where
  rows_more : (l : List ℕ) (e : ℕ) → rows_at all s n (l ++ (e ∷ [])) ≡ rows_at all s n l ++ as_list (row_at all s n e)
  unfolding rows_at
  rows_more [] e = append-nil (as_list (row_at all s n e))
  rows_more (x ∷ l) e = ap (λ (r : List Row). as_list (row_at all s n x) ++ r) (rows_more l e) ∙ sym (append_assoc (as_list (row_at all s n x)) (rows_at all s n l) (as_list (row_at all s n e)))

  rows_step : (order : List ℕ) (j : ℕ) → j < length order → rows_at all s n (take (j + 1) order) ≡ rows_at all s n (take j order) ++ as_list (row_at all s n (get_or order j 0))
  rows_step order j l = ap (λ (k : ℕ). rows_at all s n (take k order)) (add-one j) ∙ ap (rows_at all s n) (take-suc order j 0 l) ∙ rows_more (take j order) (get_or order j 0)

  pub texts_step : (order : List ℕ) (j : ℕ) → j < length order
      → texts (rows_at all s n (take j order)) ++ texts (as_list (row_at all s n (get_or order j 0))) ≡ texts (rows_at all s n (take (j + 1) order))
  texts_step order j l = sym (ap texts (rows_step order j l) ∙ texts_append (rows_at all s n (take j order)) (as_list (row_at all s n (get_or order j 0))))

  pub row_shown : (e : ℕ) → shown all (track_at s n e).position ≡ true → as_list (row_at all s n e) ≡ row_of (key_of e) (track_at s n e) ∷ []
  unfolding row_for
  row_shown e h = rw h

  pub row_hidden : (e : ℕ) → shown all (track_at s n e).position ≡ false → as_list (row_at all s n e) ≡ []
  unfolding row_for
  row_hidden e h = rw h

  pub texts_shown : (e : ℕ) {r : Row} → shown all (track_at s n e).position ≡ true → r ≡ row_of (key_of e) (track_at s n e) → row_text r ≡ texts (as_list (row_at all s n e))
  unfolding texts
  texts_shown e h q = ap row_text q ∙ sym (append-nil (row_text (row_of (key_of e) (track_at s n e)))) ∙ sym (ap texts (row_shown e h))

  pub texts_hidden : (e : ℕ) → shown all (track_at s n e).position ≡ false → [] ≡ texts (as_list (row_at all s n e))
  unfolding texts
  texts_hidden e h = sym (ap texts (row_hidden e h))

  module _ (order : List ℕ) (j : ℕ) (l : j < length order) {rows : ℕ} {t : Bool} (r : rows ≡ length (rows_at all s n (take j order)))
      (t_is : t ≡ shown all (track_at s n (get_or order j 0)).position) where
    counted : {m : ℕ} → length (as_list (row_at all s n (get_or order j 0))) ≡ m → rows + m ≡ length (rows_at all s n (take (j + 1) order))
    counted e = sym (ap length (rows_step order j l) ∙ length-append (rows_at all s n (take j order)) _ ∙ ap₂ ◌+◌ (sym r) e)

    pub counted_yes : t ≡ true → rows + 1 ≡ length (rows_at all s n (take (j + 1) order))
    counted_yes y = counted (ap length (row_shown (get_or order j 0) (sym t_is ∙ y)))

    pub counted_no : t ≡ false → rows ≡ length (rows_at all s n (take (j + 1) order))
    counted_no y = sym (add-zero rows) ∙ counted (ap length (row_hidden (get_or order j 0) (sym t_is ∙ y)))

pub counted_start : (all : Bool) (s : List ℕ) (n : ℕ) (order : List ℕ) → 0 ≡ length (rows_at all s n (take 0 order))
unfolding rows_at
counted_start all s n order = refl

pub texts_start : (all : Bool) (s : List ℕ) (n : ℕ) (order : List ℕ) → [] ≡ texts (rows_at all s n (take 0 order))
unfolding rows_at texts
texts_start all s n order = refl
