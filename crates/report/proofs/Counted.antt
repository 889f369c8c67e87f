-- The rows of a table, counted by its places: a key that has a row has one place that is the first of its key, and a place is the first of one key. So the sum over the keys is a sum over keys and places, and in the other order one over the places.
-- Assumes nothing.
use Rattle.std.specs.Prelude.{Some, None}
use Prim.Native.Nat.{ℕ, zero, suc, ◌+◌, ◌≤◌, ◌<◌}
use native.Mathlib.Omega.{arith}
use native.Mathlib.Nat.{eq-or-lt_of_le, add-zero}
use native.Mathlib.Numerals.{add-one}
use mathlib.Core.Bool.{Bool, true, false, cond, ◌&&◌}
use mathlib.Core.List.{List}
use mathlib.Core.Logic.{⊎_elim}
use mathlib.Core.Path.{◌≡◌, refl, sym, ap, ap₂, ◌∙◌}
use lib.Dec.{eqb, ltb}
use lib.ListN.{length, length-append}
use borrow.Author.Tests.{lt-ltb, le-ltb, ltb-true, ltb-false, eqb-true, eqb-false}
use Rattle.fields.proofs.Bools.{and_left, and_right}
use Rattle.keys.specs.Keys.{end_of_keys}
use Rattle.keys.proofs.Laws.{before_end}
use Rattle.memory.specs.Offsets.{places_in}
use Rattle.place.specs.Place.{track_of}
use Rattle.track.specs.declared.Track.{Track}
use Rattle.rules.specs.Form.{is_held, holds}
use Rattle.rules.specs.Search.{lowest}
use Rattle.rules.specs.View.{track_in, view_at}
use Rattle.rules.proofs.Search.{clash, lowest_passes}
use Rattle.table_bytes.specs.Layout.{clock_of, key_at, body_at, place_at}
use Rattle.table_bytes.specs.Scan.{is_first}
use Rattle.table.specs.Bytes.{bytes}
use Rattle.table.specs.View.{view}
use Rattle.report.specs.Listing.{shown, row_for, as_list, rows_in}
use Rattle.report.specs.Walked.{rows_below}
use Rattle.report.specs.Code.{has_row}
use Rattle.report.proofs.Held.{held_is_key}
use Rattle.report.proofs.Keys.{rows_none, rows_next}
use Rattle.report.proofs.Gathered.{rows_walked}

-- ---- sums

-- 1 for what passes a test
abbrev pub one : Bool → ℕ
one b = cond b 1 0

abbrev pub sum : (ℕ → ℕ) → ℕ → ℕ
sum f zero = 0
sum f (suc n) = sum f n + f n

sum_same : (f g : ℕ → ℕ) (n : ℕ) → ((i : ℕ) → i < n → f i ≡ g i) → sum f n ≡ sum g n
sum_same f g zero h = refl
sum_same f g (suc n) h = ap₂ ◌+◌ (sum_same f g n (λ i l. h i (omega arith))) (h n (omega arith))

sum_zero : (n : ℕ) → sum (λ _. 0) n ≡ 0
sum_zero zero = refl
sum_zero (suc n) = ap (λ (x : ℕ). x + 0) (sum_zero n)

sum_add : (f g : ℕ → ℕ) (n : ℕ) → sum (λ i. f i + g i) n ≡ sum f n + sum g n
sum_add f g zero = refl
sum_add f g (suc n) = let e : sum (λ i. f i + g i) n ≡ sum f n + sum g n = sum_add f g n in omega arith

-- two sums in the other order
swap : (h : ℕ → ℕ → ℕ) (m n : ℕ) → sum (λ k. sum (h k) n) m ≡ sum (λ i. sum (λ k. h k i) m) n
swap h zero n = sym (sum_zero n)
swap h (suc m) n = ap (λ (x : ℕ). x + sum (h m) n) (swap h m n) ∙ sym (sum_add (λ i. sum (λ k. h k i) m) (h m) n)

-- at most one number is j
sum_one : (j : ℕ) (g : ℕ → Bool) (n : ℕ) → sum (λ i. one (eqb j i && g i)) n ≡ one (ltb j n && g j)
sum_one j g zero = sym (ap (λ (b : Bool). one (b && g j)) (le-ltb j 0 (omega arith)))
sum_one j g (suc n) = by_tests (ltb j n) (eqb j n) refl refl (sum_one j g n)
  where
    by_tests : (a b : Bool) → ltb j n ≡ a → eqb j n ≡ b → sum (λ i. one (eqb j i && g i)) n ≡ one (ltb j n && g j)
        → sum (λ i. one (eqb j i && g i)) n + one (b && g n) ≡ one (ltb j (suc n) && g j)
    by_tests true true e f r = absurd (omega (arith, ltb-true j n e, eqb-true j n f))
    by_tests true false e f r = add-zero _ ∙ r ∙ ap (λ (b : Bool). one (b && g j)) (e ∙ sym (lt-ltb j (suc n) (omega (arith, ltb-true j n e))))
    by_tests false true e f r =
        let q : j ≡ n = eqb-true j n f in
        let z : sum (λ i. one (eqb j i && g i)) n ≡ 0 = r ∙ ap (λ (b : Bool). one (b && g j)) e in
        let w : one (ltb j (suc n) && g j) ≡ one (g n) = ap (λ (b : Bool). one (b && g j)) (lt-ltb j (suc n) (omega arith)) ∙ ap (λ (x : ℕ). one (g x)) q in
        omega arith
    by_tests false false e f r =
        let l : n < j = ⊎_elim (λ (x : n ≡ j). absurd (eqb-false j n f (sym x))) (λ (x : n < j). x) (eq-or-lt_of_le (ltb-false j n e)) in
        add-zero _ ∙ r ∙ ap (λ (b : Bool). one (b && g j)) (e ∙ sym (le-ltb j (suc n) (omega arith)))

-- ---- the keys and the places of a table

-- the lowest place held with a key
abbrev first : List ℕ → ℕ → ℕ
first s key = lowest (λ i. holds (clock_of s) key (bytes.cell s i)) (places_in s)

-- whether the track of a place is shown
abbrev listed : Bool → List ℕ → ℕ → Bool
listed all s i = shown all (track_of (body_at s (places_in s) i)).position

module _ (all : Bool) (s : List ℕ) where
  key_row : (k : ℕ) → length (as_list (row_for all k (view s k))) ≡ one (ltb (first s k) (places_in s) && listed all s (first s k))
  unfolding row_for view_at
  key_row k = by_tests (ltb (first s k) (places_in s)) (listed all s (first s k)) refl
    where
      by_tests : (a b : Bool) → listed all s (first s k) ≡ b → length (as_list (row_for all k (track_in (cond a (Some (bytes.cell s (first s k))) None)))) ≡ one (a && listed all s (first s k))
      by_tests true true e = rw e
      by_tests true false e = rw e
      by_tests false b e = refl

  -- the rows below a key, by the places of the keys
  rows_sum : (m : ℕ) → length (rows_below all s m) ≡ sum (λ k. sum (λ i. one (eqb (first s k) i && listed all s i)) (places_in s)) m
  rows_sum zero = ap length (rows_none all s)
  rows_sum (suc m) =
      ap length (rows_next all s m)
      ∙ length-append (rows_below all s m) _
      ∙ ap₂ ◌+◌ (rows_sum m) (key_row m ∙ sym (sum_one (first s m) (listed all s) (places_in s)))

  module _ (i : ℕ) (l : i < places_in s) where
    -- a place that is the lowest of a key holds it
    found_there : (k : ℕ) → eqb (first s k) i ≡ true → holds (clock_of s) k (bytes.cell s i) ≡ true
    found_there k e =
        let q : first s k ≡ i = eqb-true _ _ e in
        ap (λ (x : ℕ). holds (clock_of s) k (bytes.cell s x)) (sym q) ∙ lowest_passes (λ j. holds (clock_of s) k (bytes.cell s j)) (places_in s) (omega arith)

    -- whether it is that of its own key, and shown
    abbrev own : Bool
    own = eqb (first s (key_at s i)) i && listed all s i

    -- .. and of no other
    only_own : (k : ℕ) → eqb (first s k) i && listed all s i ≡ eqb (key_at s i) k && own
    unfolding holds
    only_own k = by_tests (eqb (key_at s i) k) (eqb (first s k) i) refl refl
      where
        by_tests : (a b : Bool) → eqb (key_at s i) k ≡ a → eqb (first s k) i ≡ b → eqb (first s k) i && listed all s i ≡ a && own
        by_tests true b e f = ap (λ (x : ℕ). eqb (first s x) i && listed all s i) (sym (eqb-true (key_at s i) k e))
        by_tests false true e f = absurd (clash (and_left (eqb (key_at s i) k) _ (found_there k f)) e)
        by_tests false false e f = ap (λ (b : Bool). b && listed all s i) f

    own_row : (m : ℕ) → end_of_keys ≤ m → ltb (key_at s i) m && own ≡ has_row all (clock_of s) s (places_in s) i
    unfolding holds
    own_row m g = by_test (eqb (first s (key_at s i)) i) refl
      where
        none_out : (a b x : Bool) → a && (false && x) ≡ b && false && x
        none_out true true x = refl
        none_out true false x = refl
        none_out false true x = refl
        none_out false false x = refl

        by_test : (b : Bool) → eqb (first s (key_at s i)) i ≡ b → ltb (key_at s i) m && (b && listed all s i) ≡ is_held (clock_of s) (bytes.cell s i) && b && listed all s i
        by_test true e =
            let h = found_there (key_at s i) e in
            let k : key_at s i < end_of_keys = before_end (key_at s i) (held_is_key s (key_at s i) (i, (l, h))) in
            rw (lt-ltb (key_at s i) m (omega arith), and_right (eqb (key_at s i) (key_at s i)) _ h)
        by_test false e = none_out (ltb (key_at s i) m) (is_held (clock_of s) (bytes.cell s i)) (listed all s i)

    place_row : (m : ℕ) → end_of_keys ≤ m → sum (λ k. one (eqb (first s k) i && listed all s i)) m ≡ one (has_row all (clock_of s) s (places_in s) i)
    place_row m g = sum_same _ _ m (λ k _. ap one (only_own k)) ∙ sum_one (key_at s i) (λ _. own) m ∙ ap one (own_row m g)

  by_places : (m : ℕ) → end_of_keys ≤ m → length (rows_below all s m) ≡ sum (λ i. one (has_row all (clock_of s) s (places_in s) i)) (places_in s)
  by_places m g =
      rows_sum m
      ∙ swap (λ k i. one (eqb (first s k) i && listed all s i)) m (places_in s)
      ∙ sum_same _ _ (places_in s) (λ i l. place_row i l m g)

  pub rows_counted : length (rows_in all s) ≡ sum (λ i. one (has_row all (clock_of s) s (places_in s) i)) (places_in s)
  rows_counted = ap length (rows_walked s all) ∙ by_places end_of_keys (omega arith)

-- ---- a place, as the code tests it

module _ (all : Bool) (clock : ℕ) (s : List ℕ) (n i : ℕ) {t : Bool} (t_is : t ≡ is_first (place_at s n) n clock i) where
  pub first_shown : t ≡ true → {p : List ℕ} → p ≡ body_at s n i → {x : Track} → x ≡ track_of p → {r : Bool} → r ≡ shown all x.position → r ≡ has_row all clock s n i
  first_shown y e f g =
      g
      ∙ ap (λ (z : Track). shown all z.position) (f ∙ ap track_of e)
      ∙ sym (ap (λ (b : Bool). b && shown all (track_of (body_at s n i)).position) (sym t_is ∙ y))

  pub not_first : t ≡ false → false ≡ has_row all clock s n i
  not_first y = sym (ap (λ (b : Bool). b && shown all (track_of (body_at s n i)).position) (sym t_is ∙ y))

-- one place more
module _ (f : ℕ → Bool) (i : ℕ) {n : ℕ} (e : n ≡ sum (λ j. one (f j)) i) {t : Bool} (t_is : t ≡ f i) where
  pub counted_yes : t ≡ true → n + 1 ≡ sum (λ j. one (f j)) (i + 1)
  counted_yes y = rw (add-one i, ← e, ← t_is, y)

  pub counted_no : t ≡ false → n ≡ sum (λ j. one (f j)) (i + 1)
  counted_no y = rw (add-one i, ← e, ← t_is, y) (sym (add-zero n))

-- all places
pub counted_all : (all : Bool) (s : List ℕ) {n clock rows i : ℕ} → n ≡ places_in s → clock ≡ clock_of s → i ≡ n → rows ≡ sum (λ j. one (has_row all clock s n j)) i
    → rows ≡ length (rows_in all s)
counted_all all s {n} {clock} p q e r =
    r
    ∙ ap (λ (k : ℕ). sum (λ j. one (has_row all clock s n j)) k) (e ∙ p)
    ∙ ap₂ (λ (m t : ℕ). sum (λ j. one (has_row all t s m j)) (places_in s)) p q
    ∙ sym (rows_counted all s)
