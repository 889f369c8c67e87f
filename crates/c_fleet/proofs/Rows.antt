-- Rows in the order of their keys: those of two tests that no key passes both, put together, are those that pass one of the tests. So the rows of all tables are all rows.
-- Assumes nothing.
use Rattle.std.specs.Prelude.{Option, Some, None}
use Prim.Native.Nat.{ℕ, zero, suc, ◌<◌}
use native.Mathlib.Omega.{arith}
use mathlib.Core.Bool.{Bool, true, false, cond, true≢false, ◌&&◌, ◌||◌}
use mathlib.Core.Path.{◌≡◌, refl, ap, ap₂, sym, ◌∙◌}
use mathlib.Core.List.{List, [], ◌∷◌, ◌++◌}
use lib.Dec.{eqb, ltb}
use borrow.Author.Tests.{lt-ltb, ltb-true, ltb-false, le-ltb, eqb-true, eqb-false}
use Rattle.track.specs.declared.Track.{Track}
use Rattle.text.specs.declared.Row.{Row}
use Rattle.report.specs.Listing.{row_for, as_list}
use Rattle.fleet.specs.Together.{rows_held, put_in, together, all_of}
use Rattle.fleet.proofs.Together.{Below, key_of, below_held}
use Rattle.c_fleet.specs.Listings.{rows_with, rows_for}

-- ---- rows whose keys rise

abbrev pub Above : ℕ → List Row → Type 0
Above k [] = Unit {0}
Above k (x ∷ xs) = (k < x.key) × Above k xs

abbrev pub Rising : List Row → Type 0
Rising [] = Unit {0}
Rising (x ∷ xs) = Above x.key xs × Rising xs

module _ (k : ℕ) (r : Option Row) (its : (z : Row) → r ≡ Some z → z.key ≡ k) where
  above_one : (j : ℕ) → j < k → (q : Option Row) → r ≡ q → Above j (as_list q)
  above_one j h None e = tt
  above_one j h (Some z) e = (omega (arith, its z e), tt)

  above_end : (j : ℕ) (xs : List Row) → j < k → Above j xs → Above j (xs ++ as_list r)
  above_end j [] h a = above_one j h r refl
  above_end j (x ∷ xs) h a = (a.0, above_end j xs h a.1)

  rising_one : (q : Option Row) → Rising (as_list q)
  rising_one None = tt
  rising_one (Some z) = (tt, tt)

  rising_end : (xs : List Row) → Below k xs → Rising xs → Rising (xs ++ as_list r)
  rising_end [] b s = rising_one r
  rising_end (x ∷ xs) b s = (above_end x.key xs b.0 s.0, rising_end xs b.1 s.1)

pub rising_held : (all : Bool) (held : ℕ → Option Track) (k : ℕ) → Rising (rows_held all held k)
rising_held all held zero = tt
rising_held all held (suc k) = rising_end k (row_for all k (held k)) (key_of all k (held k)) (rows_held all held k) (below_held all held k) (rising_held all held k)

-- ---- those that pass a test

with_same : (is was : ℕ → Bool) → ((key : ℕ) → is key ≡ was key) → (rows : List Row) → rows_with is rows ≡ rows_with was rows
with_same is was e [] = refl
with_same is was e (x ∷ xs) = ap₂ (λ (b : Bool) (l : List Row). cond b (x ∷ l) l) (e x.key) (with_same is was e xs)

with_all : (rows : List Row) → rows_with (λ key. true) rows ≡ rows
with_all [] = refl
with_all (x ∷ xs) = ap (λ (l : List Row). x ∷ l) (with_all xs)

with_none : (rows : List Row) → rows_with (λ key. false) rows ≡ []
with_none [] = refl
with_none (x ∷ xs) = with_none xs

module _ (is : ℕ → Bool) where
  above_with : (k : ℕ) (xs : List Row) → Above k xs → Above k (rows_with is xs)
  above_with k [] a = tt
  above_with k (x ∷ xs) a = by_cases (is x.key) (above_with k xs a.1)
    where
      by_cases : (b : Bool) → Above k (rows_with is xs) → Above k (cond b (x ∷ rows_with is xs) (rows_with is xs))
      by_cases true more = (a.0, more)
      by_cases false more = more

  pub rising_with : (xs : List Row) → Rising xs → Rising (rows_with is xs)
  rising_with [] s = tt
  rising_with (x ∷ xs) s = by_cases (is x.key) (rising_with xs s.1)
    where
      by_cases : (b : Bool) → Rising (rows_with is xs) → Rising (cond b (x ∷ rows_with is xs) (rows_with is xs))
      by_cases true more = (above_with x.key xs s.0, more)
      by_cases false more = more

  with_append : (xs ys : List Row) → rows_with is (xs ++ ys) ≡ rows_with is xs ++ rows_with is ys
  with_append [] ys = refl
  with_append (x ∷ xs) ys = by_cases (is x.key) (with_append xs ys)
    where
      by_cases : (b : Bool) → rows_with is (xs ++ ys) ≡ rows_with is xs ++ rows_with is ys
          → cond b (x ∷ rows_with is (xs ++ ys)) (rows_with is (xs ++ ys)) ≡ cond b (x ∷ rows_with is xs) (rows_with is xs) ++ rows_with is ys
      by_cases true e = ap (λ (l : List Row). x ∷ l) e
      by_cases false e = e

-- ---- what a table holds of it all

module _ (all : Bool) (is : ℕ → Bool) (one : ℕ → Option Track) where
  row_with : (k : ℕ) → as_list (row_for all k (cond (is k) (one k) None)) ≡ rows_with is (as_list (row_for all k (one k)))
  unfolding row_for
  row_with k = by_row (row_for all k (one k)) (is k) (key_of all k (one k)) refl refl
    where
      by_row : (r : Option Row) (b : Bool) → ((z : Row) → r ≡ Some z → z.key ≡ k) → is k ≡ b → row_for all k (one k) ≡ r → as_list (row_for all k (cond b (one k) None)) ≡ rows_with is (as_list r)
      by_row None true its e h = ap as_list h
      by_row (Some z) true its e h = ap as_list h ∙ sym (ap (λ (b : Bool). cond b (z ∷ []) []) (ap is (its z refl) ∙ e))
      by_row None false its e h = refl
      by_row (Some z) false its e h = sym (ap (λ (b : Bool). cond b (z ∷ []) []) (ap is (its z refl) ∙ e))

  pub held_with : (k : ℕ) → rows_held all (λ key. cond (is key) (one key) None) k ≡ rows_with is (rows_held all one k)
  held_with zero = refl
  held_with (suc k) = ap₂ (λ (l m : List Row). l ++ m) (held_with k) (row_with k) ∙ sym (with_append is (rows_held all one k) (as_list (row_for all k (one k))))

-- ---- two together

pub put_first : (x : Row) (ys : List Row) → Above x.key ys → put_in x ys ≡ x ∷ ys
put_first x [] a = refl
put_first x (y ∷ ys) a = ap (λ (b : Bool). cond b (x ∷ y ∷ ys) (y ∷ put_in x ys)) (lt-ltb x.key y.key a.0)

pub after_first : (y : Row) (xs ys : List Row) → Above y.key xs → together xs (y ∷ ys) ≡ y ∷ together xs ys
after_first y [] ys a = refl
after_first y (x ∷ xs) ys a =
    ap (put_in x) (after_first y xs ys a.1)
    ∙ ap (λ (b : Bool). cond b (x ∷ y ∷ together xs ys) (y ∷ put_in x (together xs ys))) (le-ltb x.key y.key (omega (arith, a.0)))

module _ (is was : ℕ → Bool) (apart : (key : ℕ) → is key && was key ≡ false) where
  abbrev one_of : ℕ → Bool
  one_of key = is key || was key

  pub with_both : (rows : List Row) → Rising rows → together (rows_with is rows) (rows_with was rows) ≡ rows_with one_of rows
  with_both [] s = refl
  with_both (x ∷ xs) s = by_cases (is x.key) (was x.key) (apart x.key) (with_both xs s.1)
    where
      by_cases : (b c : Bool) → b && c ≡ false → together (rows_with is xs) (rows_with was xs) ≡ rows_with one_of xs
          → together (cond b (x ∷ rows_with is xs) (rows_with is xs)) (cond c (x ∷ rows_with was xs) (rows_with was xs)) ≡ cond (b || c) (x ∷ rows_with one_of xs) (rows_with one_of xs)
      by_cases true true e more = absurd (true≢false e)
      by_cases true false e more = ap (put_in x) more ∙ put_first x (rows_with one_of xs) (above_with one_of x.key xs s.0)
      by_cases false true e more = after_first x (rows_with is xs) (rows_with was xs) (above_with is x.key xs s.0) ∙ ap (λ (l : List Row). x ∷ l) more
      by_cases false false e more = more

-- ---- all tables

and_turned : (b c : Bool) → c && b ≡ false → b && c ≡ false
and_turned true true e = e
and_turned true false e = refl
and_turned false c e = refl

or_turned : (b c : Bool) → b || c ≡ c || b
or_turned true true = refl
or_turned true false = refl
or_turned false true = refl
or_turned false false = refl

module _ (which : ℕ → ℕ) where
  -- the first n
  abbrev pub among : ℕ → ℕ → Bool
  among n key = ltb (which key) n

  pub next_among : (n key : ℕ) → eqb (which key) n || among n key ≡ among (suc n) key
  next_among n key = by_cases (eqb (which key) n) (among n key) refl refl
    where
      by_cases : (b c : Bool) → eqb (which key) n ≡ b → ltb (which key) n ≡ c → b || c ≡ ltb (which key) (suc n)
      by_cases true c e l = sym (lt-ltb (which key) (suc n) (omega (arith, eqb-true (which key) n e)))
      by_cases false true e l = sym (lt-ltb (which key) (suc n) (omega (arith, ltb-true (which key) n l)))
      by_cases false false e l = sym (le-ltb (which key) (suc n) (omega (arith, ltb-false (which key) n l, eqb-false (which key) n e)))

  pub next_apart : (n key : ℕ) → eqb (which key) n && among n key ≡ false
  next_apart n key = by_cases (eqb (which key) n) refl
    where
      by_cases : (b : Bool) → eqb (which key) n ≡ b → b && among n key ≡ false
      by_cases true e = le-ltb (which key) n (omega (arith, eqb-true (which key) n e))
      by_cases false e = refl

  module _ (rows : List Row) (rising : Rising rows) where
    next_rows : (n : ℕ) → together (rows_for which n rows) (rows_with (among n) rows) ≡ rows_with (among (suc n)) rows
    next_rows n = with_both (λ key. eqb (which key) n) (among n) (next_apart n) rows rising ∙ with_same (λ key. eqb (which key) n || among n key) (among (suc n)) (next_among n) rows

    -- .. put together the other way round
    pub rows_next : (n : ℕ) → together (rows_with (among n) rows) (rows_for which n rows) ≡ rows_with (among (suc n)) rows
    rows_next n =
        with_both (among n) (λ key. eqb (which key) n) (λ key. and_turned (among n key) (eqb (which key) n) (next_apart n key)) rows rising
        ∙ with_same (λ key. among n key || eqb (which key) n) (among (suc n)) (λ key. or_turned (among n key) (eqb (which key) n) ∙ next_among n key) rows

    pub first_rows : rows_for which 0 rows ≡ rows_with (among 1) rows
    first_rows = with_same (λ key. eqb (which key) 0) (among 1) (λ key. or_turned false (eqb (which key) 0) ∙ sym (ap (λ (b : Bool). eqb (which key) 0 || b) (le-ltb (which key) 0 (omega arith))) ∙ next_among 0 key) rows

    all_among : (n : ℕ) → all_of n (λ i. rows_for which i rows) ≡ rows_with (among n) rows
    all_among zero = sym (with_same (among 0) (λ key. false) (λ key. le-ltb (which key) 0 (omega arith)) rows ∙ with_none rows)
    all_among (suc n) = ap (together (rows_for which n rows)) (all_among n) ∙ next_rows n

    pub whole_among : (n : ℕ) → ((key : ℕ) → which key < n) → rows_with (among n) rows ≡ rows
    whole_among n h = with_same (among n) (λ key. true) (λ key. lt-ltb (which key) n (h key)) rows ∙ with_all rows

    pub all_rows : (n : ℕ) → ((key : ℕ) → which key < n) → all_of n (λ i. rows_for which i rows) ≡ rows
    all_rows n h = all_among n ∙ whole_among n h
