-- The keys that a table holds rise, each once, and are just the keys held. So the rows of these keys are those of all keys, one after the other: by the keys held, since between two of them no key has a row.
-- Assumes nothing.
use Prim.Native.Nat.{ℕ, zero, suc, ◌+◌, ◌-◌, ◌≤◌, ◌<◌}
use native.Mathlib.Omega.{arith}
use mathlib.Core.Bool.{Bool, true, false, cond, ◌&&◌}
use mathlib.Core.List.{List, [], ◌∷◌, ◌++◌, append-nil, append_assoc}
use mathlib.Core.Logic.{◌⊎◌, inl, inr, ⊎_elim}
use mathlib.Core.Path.{◌≡◌, refl, sym, ap, ◌∙◌}
use lib.Dec.{eqb, ltb}
use borrow.Author.Tests.{ltb-true, ltb-false, eqb-true, eqb-false, eq-eqb}
use Rattle.order.specs.Facts.{All, Has, Rises}
use Rattle.order.proofs.Meaning.{all_map}
use Rattle.order.proofs.Joined.{above_first}
use Rattle.fields.proofs.Bools.{and_left, and_right}
use Rattle.keys.specs.Keys.{end_of_keys}
use Rattle.keys.proofs.Laws.{before_end}
use Rattle.memory.specs.Offsets.{places_in}
use Rattle.rules.specs.Form.{is_held, holds}
use Rattle.rules.proofs.Search.{clash}
use Rattle.table_bytes.specs.Layout.{clock_of, key_at}
use Rattle.table.specs.Bytes.{bytes}
use Rattle.table.specs.View.{view, HeldKey}
use Rattle.text.specs.declared.Row.{Row}
use Rattle.report.specs.Listing.{row_for, as_list, among, keys_held, keys_in, rows_of, rows_in}
use Rattle.report.specs.Walked.{rows_below}
use Rattle.report.proofs.Held.{unheld_unseen, held_is_key}
use Rattle.report.proofs.Keys.{over, rows_none, rows_next, rows_keep}

-- ---- a key among others

among_all : (P : ℕ → Type 0) (x : ℕ) → P x → (l : List ℕ) → All P l → All P (among x l)
unfolding among
among_all P x p [] h = (p, tt)
among_all P x p (y ∷ ys) h = by_tests (ltb x y) (eqb x y) (among_all P x p ys h.1)
  where
    by_tests : (a b : Bool) → All P (among x ys) → All P (cond a (x ∷ y ∷ ys) (cond b (y ∷ ys) (y ∷ among x ys)))
    by_tests true b r = (p, h)
    by_tests false true r = h
    by_tests false false r = (h.0, r)

among_rises : (x : ℕ) (l : List ℕ) → Rises l → Rises (among x l)
unfolding among
among_rises x [] h = (tt, tt)
among_rises x (y ∷ ys) h = by_tests (ltb x y) (eqb x y) refl refl (among_rises x ys h.1)
  where
    by_tests : (a b : Bool) → ltb x y ≡ a → eqb x y ≡ b → Rises (among x ys) → Rises (cond a (x ∷ y ∷ ys) (cond b (y ∷ ys) (y ∷ among x ys)))
    by_tests true b e f r =
        let l : x < y = ltb-true x y e in
        ((l, all_map (λ z. y < z) (λ z. x < z) (λ z q. omega arith) ys h.0), h)
    by_tests false true e f r = h
    by_tests false false e f r =
        let n : (x ≡ y → ⊥) = eqb-false x y f in
        let l : y < x = omega (arith, ltb-false x y e) in
        (among_all (λ z. y < z) x l ys h.0, r)

among_has : (v x : ℕ) (l : List ℕ) → Has v (among x l) → (v ≡ x) ⊎ Has v l
unfolding among
among_has v x [] m = m
among_has v x (y ∷ ys) m = by_tests (ltb x y) (eqb x y) (among_has v x ys) m
  where
    by_tests : (a b : Bool) → (Has v (among x ys) → (v ≡ x) ⊎ Has v ys) → Has v (cond a (x ∷ y ∷ ys) (cond b (y ∷ ys) (y ∷ among x ys))) → (v ≡ x) ⊎ Has v (y ∷ ys)
    by_tests true b r m = m
    by_tests false true r m = inr m
    by_tests false false r m = ⊎_elim (λ e. inr (inl e)) (λ t. ⊎_elim (λ e. inl e) (λ u. inr (inr u)) (r t)) m

has_among : (v x : ℕ) (l : List ℕ) → (v ≡ x) ⊎ Has v l → Has v (among x l)
unfolding among
has_among v x [] m = m
has_among v x (y ∷ ys) m = by_tests (ltb x y) (eqb x y) refl (has_among v x ys)
  where
    by_tests : (a b : Bool) → eqb x y ≡ b → ((v ≡ x) ⊎ Has v ys → Has v (among x ys)) → Has v (cond a (x ∷ y ∷ ys) (cond b (y ∷ ys) (y ∷ among x ys)))
    by_tests true b f r = m
    by_tests false true f r = ⊎_elim (λ e. inl (e ∙ eqb-true x y f)) (λ t. t) m
    by_tests false false f r = ⊎_elim (λ e. inr (r (inl e))) (λ t. ⊎_elim (λ e. inl e) (λ u. inr (r (inr u))) t) m

-- ---- the keys of the first places

module _ (s : List ℕ) where
  pub keys_rise : (n : ℕ) → Rises (keys_held s n)
  unfolding keys_held
  keys_rise zero = tt
  keys_rise (suc n) = by_test (is_held (clock_of s) (bytes.cell s n)) (keys_rise n)
    where
      by_test : (b : Bool) → Rises (keys_held s n) → Rises (cond b (among (key_at s n) (keys_held s n)) (keys_held s n))
      by_test true r = among_rises (key_at s n) (keys_held s n) r
      by_test false r = r

  -- a place that is held holds its key
  pub own_key : (i : ℕ) → is_held (clock_of s) (bytes.cell s i) ≡ true → holds (clock_of s) (key_at s i) (bytes.cell s i) ≡ true
  unfolding holds
  own_key i h = rw (eq-eqb (key_at s i) (key_at s i) refl, h)

  pub listed_held : (key n : ℕ) → Has key (keys_held s n) → (i : ℕ) × ((i < n) × (holds (clock_of s) key (bytes.cell s i) ≡ true))
  unfolding keys_held
  listed_held key zero m = absurd m
  listed_held key (suc n) m =
      by_test (is_held (clock_of s) (bytes.cell s n)) refl (λ t. let w = listed_held key n t in (w.0, (omega (arith, w.1.0), w.1.1))) m
    where
      by_test : (b : Bool) → is_held (clock_of s) (bytes.cell s n) ≡ b → (Has key (keys_held s n) → (i : ℕ) × ((i < suc n) × (holds (clock_of s) key (bytes.cell s i) ≡ true)))
          → Has key (cond b (among (key_at s n) (keys_held s n)) (keys_held s n)) → (i : ℕ) × ((i < suc n) × (holds (clock_of s) key (bytes.cell s i) ≡ true))
      by_test true e further m =
          ⊎_elim
          (λ q. (n, (omega arith, ap (λ (k : ℕ). holds (clock_of s) k (bytes.cell s n)) q ∙ own_key n e)))
          further
          (among_has key (key_at s n) (keys_held s n) m)
      by_test false e further m = further m

  pub held_listed : (key n i : ℕ) → i < n → holds (clock_of s) key (bytes.cell s i) ≡ true → Has key (keys_held s n)
  unfolding keys_held holds
  held_listed key zero i l h = absurd (omega arith)
  held_listed key (suc n) i l h = by_test (is_held (clock_of s) (bytes.cell s n)) refl (eqb i n) refl (λ g. held_listed key n i g h)
    where
      below : (i ≡ n → ⊥) → i < n
      below d = omega arith

      own : i ≡ n → (key_at s n ≡ key) × (is_held (clock_of s) (bytes.cell s n) ≡ true)
      own q =
          let w : eqb (key_at s n) key && is_held (clock_of s) (bytes.cell s n) ≡ true = rw q at h in
          (eqb-true (key_at s n) key (and_left (eqb (key_at s n) key) _ w), and_right (eqb (key_at s n) key) _ w)

      by_test : (b : Bool) → is_held (clock_of s) (bytes.cell s n) ≡ b → (t : Bool) → eqb i n ≡ t → (i < n → Has key (keys_held s n)) → Has key (cond b (among (key_at s n) (keys_held s n)) (keys_held s n))
      by_test true e true f r = has_among key (key_at s n) (keys_held s n) (inl (sym (own (eqb-true i n f)).0))
      by_test true e false f r = has_among key (key_at s n) (keys_held s n) (inr (r (below (eqb-false i n f))))
      by_test false e true f r = absurd (clash (own (eqb-true i n f)).1 e)
      by_test false e false f r = r (below (eqb-false i n f))

  -- the keys of the table are those that it holds
  pub keys_held_lem : (key : ℕ) → Has key (keys_in s) → HeldKey s key
  keys_held_lem key m = listed_held key (places_in s) m

  pub held_keys : (key : ℕ) → HeldKey s key → Has key (keys_in s)
  held_keys key w = held_listed key (places_in s) w.0 w.1.0 w.1.1

  module _ (all : Bool) where
    -- from one key on, the keys held there
    from_key : (ks : List ℕ) (from end : ℕ) → from ≤ end → Rises ks → All (λ k. from ≤ k) ks → All (λ k. k < end) ks
        → ((k : ℕ) → from ≤ k → k < end → HeldKey s k → Has k ks) → rows_below all s end ≡ rows_below all s from ++ rows_of all s ks
    unfolding rows_of
    from_key [] from end l r low high f =
        let e : from + (end - from) ≡ end = omega arith in
        ap (rows_below all s) (sym e)
        ∙ over (rows_below all s) s (rows_keep all s) from (end - from) (λ k i j. unheld_unseen s k (λ w. f k i (omega arith) w))
        ∙ sym (append-nil (rows_below all s from))
    from_key (k ∷ ks) from end l r low high f =
        let a : from ≤ k = low.0 in
        let b : k < end = high.0 in
        let e : from + (k - from) ≡ k = omega arith in
        let own = as_list (row_for all k (view s k)) in
        let skip : rows_below all s k ≡ rows_below all s from =
        ap (rows_below all s) (sym e)
        ∙ over (rows_below all s) s (rows_keep all s) from (k - from)
        (λ j i u. unheld_unseen s j (λ w. ⊎_elim (λ q. omega arith) (λ t. omega (arith, above_first k ks r.0 j t)) (f j i (omega arith) w))) in
        from_key ks (suc k) end (omega arith) r.1 (all_map (λ z. k < z) (λ z. suc k ≤ z) (λ z q. omega arith) ks r.0) high.1
        (λ j i u w. ⊎_elim (λ q. absurd (omega arith)) (λ t. t) (f j (omega arith) u w))
        ∙ ap (λ (x : List Row). x ++ rows_of all s ks) (rows_next all s k ∙ ap (λ (x : List Row). x ++ own) skip)
        ∙ append_assoc (rows_below all s from) own (rows_of all s ks)

    -- the rows of the keys held are those of all keys, from the lowest to the highest
    pub rows_walked : rows_in all s ≡ rows_below all s end_of_keys
    rows_walked =
        sym
        (from_key (keys_in s) 0 end_of_keys (omega arith) (keys_rise (places_in s)) (each_of (λ k. 0 ≤ k) (keys_in s) (λ k m. omega arith))
        (each_of (λ k. k < end_of_keys) (keys_in s) (λ k m. before_end k (held_is_key s k (keys_held_lem k m))))
        (λ k i j w. held_keys k w)
        ∙ ap (λ (x : List Row). x ++ rows_in all s) (rows_none all s))
      where
        each_of : (P : ℕ → Type 0) (l : List ℕ) → ((v : ℕ) → Has v l → P v) → All P l
        each_of P [] f = tt
        each_of P (x ∷ xs) f = (f x (inl refl), each_of P xs (λ v t. f v (inr t)))
