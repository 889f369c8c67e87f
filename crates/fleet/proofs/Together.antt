-- The listings of a fleet are the listing of one table: each key is held by one of the tables at most, and the rows of two are put together by adding the keys one after the other, the highest at the end.
-- Assumes nothing.
use Rattle.std.specs.Prelude.{Option, Some, None}
use Prim.Native.Nat.{ℕ, zero, suc, ◌+◌, ◌<◌}
use native.Mathlib.Omega.{arith}
use mathlib.Core.Bool.{Bool, true, false, cond}
use mathlib.Core.Logic.{◌⊎◌, inl, inr}
use mathlib.Core.Path.{◌≡◌, refl, ap, ap₂, sym, ◌∙◌}
use mathlib.Core.List.{List, [], ◌∷◌, ◌++◌, append-nil}
use lib.Dec.{eqb, ltb}
use lib.ListN.{length}
use borrow.Author.Tests.{lt-ltb, ltb-true, ltb-false, le-ltb, eqb-true, eqb-false, eq-eqb, ne_eqb}
use Rattle.keys.specs.Keys.{end_of_keys}
use Rattle.track.specs.declared.Track.{Track}
use Rattle.text.specs.declared.Row.{Row}
use Rattle.rules.specs.Form.{Form, Lawful}
use Rattle.rules.specs.Rules.{set_up, received}
use Rattle.rules.specs.View.{view}
use Rattle.table.specs.Bytes.{bytes}
use Rattle.report.specs.Listing.{shown, row_of, row_for, as_list, rows_in, header_for, listing}
use Rattle.report.specs.Walked.{rows_below}
use Rattle.report.proofs.Gathered.{rows_walked}
use Rattle.isolation.specs.Runs.{Call}
use Rattle.isolation.specs.Logs.{left}
use Rattle.fleet.specs.Fleet.{least_deal}
use Rattle.fleet.specs.Together.{rows_held, rows_of, listed, BytesListed, put_in, together, all_of, sum_of, FleetListing}
use Rattle.fleet.proofs.Room.{some_held}
use Rattle.fleet.proofs.Plain.{plain_same, plain_clock, plain_holds}

-- ---- rows in order

abbrev pub Below : ℕ → List Row → Type 0
Below k [] = Unit {0}
Below k (x ∷ xs) = (x.key < k) × Below k xs

below_more : (k m : ℕ) → k < suc m → (xs : List Row) → Below k xs → Below m xs
below_more k m h [] b = tt
below_more k m h (x ∷ xs) b = (omega (arith, b.0), below_more k m h xs b.1)

below_end : (k : ℕ) (xs : List Row) (r : Option Row) → Below k xs → Below k (as_list r) → Below k (xs ++ as_list r)
below_end k [] r b c = c
below_end k (x ∷ xs) r b c = (b.0, below_end k xs r b.1 c)

put_length : (x : Row) (ys : List Row) → length (put_in x ys) ≡ suc (length ys)
put_length x [] = refl
put_length x (y ∷ ys) = by_test (ltb x.key y.key) (put_length x ys)
  where
    by_test : (b : Bool) → length (put_in x ys) ≡ suc (length ys) → length (cond b (x ∷ y ∷ ys) (y ∷ put_in x ys)) ≡ suc (suc (length ys))
    by_test true e = refl
    by_test false e = ap suc e

pub together_length : (xs ys : List Row) → length (together xs ys) ≡ length xs + length ys
together_length [] ys = omega arith
together_length (x ∷ xs) ys = omega (arith, put_length x (together xs ys), together_length xs ys)

-- a row below the last one is put in before it; one above all comes at the end
put_before : (x : Row) (ys : List Row) (r : Option Row) → ((z : Row) → r ≡ Some z → x.key < z.key) → put_in x (ys ++ as_list r) ≡ put_in x ys ++ as_list r
put_before x [] None h = refl
put_before x [] (Some z) h = ap (λ (b : Bool). cond b (x ∷ z ∷ []) (z ∷ x ∷ [])) (lt-ltb x.key z.key (h z refl))
put_before x (y ∷ ys) r h = by_test (ltb x.key y.key) (put_before x ys r h)
  where
    by_test : (b : Bool) → put_in x (ys ++ as_list r) ≡ put_in x ys ++ as_list r
        → cond b (x ∷ y ∷ ys ++ as_list r) (y ∷ put_in x (ys ++ as_list r)) ≡ cond b (x ∷ y ∷ ys) (y ∷ put_in x ys) ++ as_list r
    by_test true e = refl
    by_test false e = ap (λ (l : List Row). y ∷ l) e

put_last : (x : Row) (ys : List Row) → Below x.key ys → put_in x ys ≡ ys ++ x ∷ []
put_last x [] b = refl
put_last x (y ∷ ys) b =
    ap (λ (c : Bool). cond c (x ∷ y ∷ ys) (y ∷ put_in x ys)) (le-ltb x.key y.key (omega (arith, b.0))) ∙ ap (λ (l : List Row). y ∷ l) (put_last x ys b.1)

module _ (k : ℕ) (r : Option Row) (its : (z : Row) → r ≡ Some z → z.key ≡ k) where
  last_right : (xs ys : List Row) → Below k xs → together xs (ys ++ as_list r) ≡ together xs ys ++ as_list r
  last_right [] ys b = refl
  last_right (x ∷ xs) ys b = ap (put_in x) (last_right xs ys b.1) ∙ put_before x (together xs ys) r (λ z e. omega (arith, b.0, its z e))

  end_of_left : (ys : List Row) (q : Option Row) → r ≡ q → Below k ys → together (as_list q) ys ≡ ys ++ as_list q
  end_of_left ys None e b = sym (append-nil ys)
  end_of_left ys (Some z) e b = put_last z ys (below_more k z.key (omega (arith, its z e)) ys b)

  last_left : (xs ys : List Row) → Below k xs → Below k ys → together (xs ++ as_list r) ys ≡ together xs ys ++ as_list r
  last_left [] ys b c = end_of_left ys r refl c
  last_left (x ∷ xs) ys b c = ap (put_in x) (last_left xs ys b.1 c) ∙ put_before x (together xs ys) r (λ z e. omega (arith, b.0, its z e))

-- ---- what is held, key by key

pub key_of : (all : Bool) (k : ℕ) (t : Option Track) (z : Row) → row_for all k t ≡ Some z → z.key ≡ k
unfolding row_for row_of
key_of all k None z e = absurd (some_held (sym e))
key_of all k (Some t) z e = by_test (shown all t.position) e
  where
    by_test : (b : Bool) → cond b (Some (row_of k t)) None ≡ Some z → z.key ≡ k
    by_test true p = let q : row_of k t ≡ z = cc in sym (ap (λ (x : Row). x.key) q)
    by_test false p = absurd (some_held (sym p))

pub below_held : (all : Bool) (held : ℕ → Option Track) (k : ℕ) → Below k (rows_held all held k)
below_held all held zero = tt
below_held all held (suc k) = below_end (suc k) (rows_held all held k) (row_for all k (held k)) (below_more k (suc k) (omega arith) (rows_held all held k) (below_held all held k)) (of_one (row_for all k (held k)) refl)
  where
    of_one : (r : Option Row) → row_for all k (held k) ≡ r → Below (suc k) (as_list r)
    of_one None e = tt
    of_one (Some z) e = (omega (arith, key_of all k (held k) z e), tt)

pub held_same : (all : Bool) (u w : ℕ → Option Track) → ((key : ℕ) → u key ≡ w key) → (k : ℕ) → rows_held all u k ≡ rows_held all w k
held_same all u w e zero = refl
held_same all u w e (suc k) = ap₂ (λ (l : List Row) (t : Option Track). l ++ as_list (row_for all k t)) (held_same all u w e k) (e k)

abbrev either : Option Track → Option Track → Option Track
either None w = w
either (Some t) w = Some t

either_none : (u : Option Track) → either u None ≡ u
either_none None = refl
either_none (Some t) = refl

module _ (all : Bool) (u w : ℕ → Option Track) (apart : (key : ℕ) → (u key ≡ None) ⊎ (w key ≡ None)) where
  abbrev both : ℕ → Option Track
  both key = either (u key) (w key)

  no_row : (k : ℕ) → as_list (row_for all k None) ≡ []
  unfolding row_for
  no_row k = refl

  held_together : (k : ℕ) → together (rows_held all u k) (rows_held all w k) ≡ rows_held all both k
  held_together zero = refl
  held_together (suc k) = by_side (apart k) (held_together k)
    where
      by_side : (u k ≡ None) ⊎ (w k ≡ None) → together (rows_held all u k) (rows_held all w k) ≡ rows_held all both k
          → together (rows_held all u k ++ as_list (row_for all k (u k))) (rows_held all w k ++ as_list (row_for all k (w k))) ≡ rows_held all both k ++ as_list (row_for all k (both k))
      by_side (inl e) more =
          ap (λ (l : List Row). together l (rows_held all w k ++ as_list (row_for all k (w k))))
          (ap (λ (t : Option Track). rows_held all u k ++ as_list (row_for all k t)) e ∙ ap (λ (l : List Row). rows_held all u k ++ l) (no_row k) ∙ append-nil (rows_held all u k))
          ∙ last_right k (row_for all k (w k)) (key_of all k (w k)) (rows_held all u k) (rows_held all w k) (below_held all u k)
          ∙ ap₂ (λ (l : List Row) (t : Option Track). l ++ as_list (row_for all k t)) more (sym (ap (λ (t : Option Track). either t (w k)) e))
      by_side (inr e) more =
          ap (λ (l : List Row). together (rows_held all u k ++ as_list (row_for all k (u k))) l)
          (ap (λ (t : Option Track). rows_held all w k ++ as_list (row_for all k t)) e ∙ ap (λ (l : List Row). rows_held all w k ++ l) (no_row k) ∙ append-nil (rows_held all w k))
          ∙ last_left k (row_for all k (u k)) (key_of all k (u k)) (rows_held all u k) (rows_held all w k) (below_held all u k) (below_held all w k)
          ∙ ap₂ (λ (l : List Row) (t : Option Track). l ++ as_list (row_for all k t)) more (sym (ap (either (u k)) e ∙ either_none (u k)))

-- ---- tables that hold a key each at most

module _ (all : Bool) (which : ℕ → ℕ) (one : ℕ → Option Track) (held : ℕ → ℕ → Option Track) (holds : (i key : ℕ) → held i key ≡ cond (eqb (which key) i) (one key) None) where
  -- what the first n hold
  abbrev first : ℕ → ℕ → Option Track
  first n key = cond (ltb (which key) n) (one key) None

  next_one : (n key : ℕ) → either (held n key) (first n key) ≡ first (suc n) key
  next_one n key = ap (λ (t : Option Track). either t (first n key)) (holds n key) ∙ by_tests (eqb (which key) n) (ltb (which key) n) refl refl
    where
      by_tests : (b c : Bool) → eqb (which key) n ≡ b → ltb (which key) n ≡ c → either (cond b (one key) None) (cond c (one key) None) ≡ first (suc n) key
      by_tests true true e l = absurd (let h : which key < n = ltb-true (which key) n l in omega (arith, eqb-true (which key) n e))
      by_tests true false e l = rw (lt-ltb (which key) (suc n) (omega (arith, eqb-true (which key) n e))) (either_none (one key))
      by_tests false true e l = rw (lt-ltb (which key) (suc n) (omega (arith, ltb-true (which key) n l))) refl
      by_tests false false e l = rw (le-ltb (which key) (suc n) (omega (arith, ltb-false (which key) n l, eqb-false (which key) n e))) refl

  one_holds : (n key : ℕ) → (held n key ≡ None) ⊎ (first n key ≡ None)
  one_holds n key = by_test (eqb (which key) n) refl
    where
      by_test : (b : Bool) → eqb (which key) n ≡ b → (held n key ≡ None) ⊎ (first n key ≡ None)
      by_test true e = inr (ap (λ (c : Bool). cond c (one key) None) (le-ltb (which key) n (omega (arith, eqb-true (which key) n e))))
      by_test false e = inl (holds n key ∙ ap (λ (c : Bool). cond c (one key) None) e)

  nothing : (k : ℕ) → rows_held all (λ key. None) k ≡ []
  unfolding row_for
  nothing zero = refl
  nothing (suc k) = append-nil (rows_held all (λ key. None) k) ∙ nothing k

  all_rows : (k n : ℕ) → all_of n (λ i. rows_held all (held i) k) ≡ rows_held all (first n) k
  all_rows k zero = sym (held_same all (first 0) (λ key. None) (λ key. ap (λ (c : Bool). cond c (one key) None) (le-ltb (which key) 0 (omega arith))) k ∙ nothing k)
  all_rows k (suc n) =
      ap (together (rows_held all (held n) k)) (all_rows k n)
      ∙ held_together all (held n) (first n) (one_holds n) k
      ∙ held_same all (λ key. either (held n key) (first n key)) (first (suc n)) (next_one n) k

  pub each_once : (n : ℕ) → ((key : ℕ) → which key < n) → (k : ℕ) → all_of n (λ i. rows_held all (held i) k) ≡ rows_held all one k
  each_once n h k = all_rows k n ∙ held_same all (first n) one (λ key. ap (λ (c : Bool). cond c (one key) None) (lt-ltb (which key) n (h key))) k

pub counts_add : (n : ℕ) (rows : ℕ → List Row) → sum_of n (λ i. length (rows i)) ≡ length (all_of n rows)
counts_add zero rows = refl
counts_add (suc n) rows = ap (λ (m : ℕ). length (rows n) + m) (counts_add n rows) ∙ sym (together_length (rows n) (all_of n rows))

-- ---- a table in bytes: its rows are those of its listing

rows_below_lem : (all : Bool) (s : List ℕ) (k : ℕ) → rows_below all s k ≡ rows_held all (view bytes s) k
unfolding rows_below
rows_below_lem all s zero = refl
rows_below_lem all s (suc k) = ap (λ (l : List Row). l ++ as_list (row_for all k (view bytes s k))) (rows_below_lem all s k)

pub rows_listed : (all : Bool) (s : List ℕ) → rows_in all s ≡ rows_of bytes all s
rows_listed all s = rows_walked s all ∙ rows_below_lem all s end_of_keys

pub bytes_listed : BytesListed
unfolding listing header_for
bytes_listed all s bad = ap (λ (rows : List Row). listed (bytes.clock s) rows bad) (rows_listed all s)

-- ---- a fleet

pub fleet_listing : {S T : Type 0} (F : Form S) (G : Form T) → Lawful F → Lawful G → FleetListing F G
fleet_listing {S} {T} F G L M which n h site east s done tables all_done stream t tick f g all =
    let one : S = left (received F) (set_up F s site).table stream in
    let of : ℕ → T = λ i. left (received G) (set_up G (tables i) site).table (least_deal which i stream t) in
    let rows : all_of n (λ i. rows_of G all (of i)) ≡ rows_of F all one =
    each_once all which (view F one) (λ i. view G (of i)) (λ i key. plain_holds F G L M which site east s done tables all_done stream t tick key (f key) (g key) i) n h end_of_keys in
    record {
      clock = plain_clock F G L M which site east s done tables all_done stream t tick;
      rows = rows;
      tracks = counts_add n (λ i. rows_of G all (of i)) ∙ ap length rows;
    }
