-- The entries of the lowest places are those of the keys held, in order: the keys of both rise and are the same, so they are one list; and the place of each is the one that the view of its key is read from.
-- Assumes nothing.
use Rattle.std.specs.Prelude.{Some, None}
use Prim.Native.Nat.{ℕ, zero, suc, ◌≤◌, ◌<◌}
use native.Mathlib.Omega.{arith}
use mathlib.Core.Bool.{Bool, true, false, cond}
use mathlib.Core.List.{List, [], ◌∷◌, ◌++◌}
use mathlib.Core.Logic.{◌⊎◌, inl, inr, ⊎_elim}
use mathlib.Core.Path.{◌≡◌, refl, sym, ap, ap₂, ◌∙◌}
use lib.Dec.{eqb, ltb}
use borrow.Author.Tests.{lt-ltb, eqb-true}
use Rattle.fields.proofs.Bools.{and_left, and_right}
use Rattle.order.specs.Sorted.{entry_of, key_of}
use Rattle.order.specs.Facts.{All, Has, Strict, Rises}
use Rattle.order.proofs.Cases.{equal, order}
use Rattle.order.proofs.Meaning.{all_has, each_key_once, none_made, lowest_kept}
use Rattle.order.proofs.Joined.{joined}
use Rattle.keys.proofs.Laws.{before_end}
use Rattle.memory.specs.Offsets.{places_in}
use Rattle.rules.specs.Form.{is_held, holds}
use Rattle.rules.specs.Search.{lowest}
use Rattle.rules.specs.View.{track_in, view_at}
use Rattle.rules.proofs.Search.{clash, lowest_passes, none_lower}
use Rattle.table_bytes.specs.Layout.{clock_of, key_at}
use Rattle.table.specs.Bytes.{bytes}
use Rattle.table.specs.View.{view}
use Rattle.text.specs.declared.Row.{Row}
use Rattle.report.specs.Listing.{row_for, as_list, keys_in, rows_of, rows_in}
use Rattle.report.proofs.Held.{held_is_key}
use Rattle.report.proofs.Gathered.{own_key, keys_rise, keys_held_lem, held_keys}
use Rattle.whole.specs.Whole.{entries_of, lowest_of}
use Rattle.whole.specs.Code.{place_of, track_at, rows_at, Within}

-- ---- what lists have

has_left : (v : ℕ) (a b : List ℕ) → Has v a → Has v (a ++ b)
has_left v [] b m = absurd m
has_left v (x ∷ a) b m = ⊎_elim (λ e. inl e) (λ t. inr (has_left v a b t)) m

has_right : (v : ℕ) (a b : List ℕ) → Has v b → Has v (a ++ b)
has_right v [] b m = m
has_right v (x ∷ a) b m = inr (has_right v a b m)

has_either : (v : ℕ) (a b : List ℕ) → Has v (a ++ b) → Has v a ⊎ Has v b
has_either v [] b m = inr m
has_either v (x ∷ a) b m = ⊎_elim (λ e. inl (inl e)) (λ t. ⊎_elim (λ u. inl (inr u)) (λ u. inr u) (has_either v a b t)) m

pub all_of : (P : ℕ → Type 0) (l : List ℕ) → ((v : ℕ) → Has v l → P v) → All P l
all_of P [] f = tt
all_of P (x ∷ xs) f = (f x (inl refl), all_of P xs (λ v t. f v (inr t)))

-- ---- the keys of entries

abbrev keys_of : List ℕ → List ℕ
keys_of [] = []
keys_of (e ∷ es) = key_of e ∷ keys_of es

keys_above : (k : ℕ) (l : List ℕ) → All (λ y. k < key_of y) l → All (λ y. k < y) (keys_of l)
keys_above k [] h = tt
keys_above k (x ∷ xs) h = (h.0, keys_above k xs h.1)

strict_rises : (l : List ℕ) → Strict l → Rises (keys_of l)
strict_rises [] h = tt
strict_rises (x ∷ xs) h = (keys_above (key_of x) xs h.0, strict_rises xs h.1)

has_key : (v : ℕ) (l : List ℕ) → Has v l → Has (key_of v) (keys_of l)
has_key v [] m = absurd m
has_key v (x ∷ xs) m = ⊎_elim (λ e. inl (ap key_of e)) (λ t. inr (has_key v xs t)) m

key_has : (k : ℕ) (l : List ℕ) → Has k (keys_of l) → (v : ℕ) × (Has v l × (k ≡ key_of v))
key_has k [] m = absurd m
key_has k (x ∷ xs) m = ⊎_elim (λ e. (x, (inl refl, e))) (λ t. let w = key_has k xs t in (w.0, (inr w.1.0, w.1.1))) m

-- of one key there is one entry
one_of_key : (l : List ℕ) → Strict l → (a b : ℕ) → Has a l → Has b l → key_of a ≡ key_of b → a ≡ b
one_of_key [] h a b m n e = absurd m
one_of_key (x ∷ xs) h a b m n e =
    let above : (v : ℕ) → Has v xs → key_of x < key_of v = λ v t. all_has (λ y. key_of x < key_of y) (λ i j q p. rw q p) xs h.0 v t in
    ⊎_elim
    (λ p. ⊎_elim (λ q. p ∙ sym q) (λ t. absurd (omega (arith, above b t, ap key_of p))) n)
    (λ t. ⊎_elim (λ q. absurd (omega (arith, above a t, ap key_of q))) (λ u. one_of_key xs h.1 a b t u e) n)
    m

-- ---- the entries of the places held

module _ (s : List ℕ) where
  abbrev held_at : ℕ → Bool
  held_at i = is_held (clock_of s) (bytes.cell s i)

  -- an entry is that of a place that is held
  record Of (v n : ℕ) : Type 0 where
    pub place : ℕ
    pub low : place < n
    pub held : held_at place ≡ true
    pub is : v ≡ entry_of (key_at s place) place

  entry_held : (v n : ℕ) → Has v (entries_of s n) → Of v n
  unfolding entries_of
  entry_held v zero m = absurd m
  entry_held v (suc n) m =
      ⊎_elim
      (λ t. let w = entry_held v n t in record { place = w.place; low = omega (arith, w.low); held = w.held; is = w.is })
      (λ t. by_test (held_at n) refl t)
      (has_either v (entries_of s n) _ m)
    where
      by_test : (b : Bool) → held_at n ≡ b → Has v (cond b (entry_of (key_at s n) n ∷ []) []) → Of v (suc n)
      by_test true e m = ⊎_elim (λ q. record { place = n; low = omega arith; held = e; is = q }) (λ t. absurd t) m
      by_test false e m = absurd m

  held_entry : (n i : ℕ) → i < n → held_at i ≡ true → Has (entry_of (key_at s i) i) (entries_of s n)
  unfolding entries_of
  held_entry zero i l h = absurd (omega arith)
  held_entry (suc n) i l h =
      equal i n
      (λ e. has_right _ (entries_of s n) _ (there e))
      (λ d. has_left _ (entries_of s n) _ (held_entry n i (omega arith) h))
    where
      there : i ≡ n → Has (entry_of (key_at s i) i) (cond (held_at n) (entry_of (key_at s n) n ∷ []) [])
      there e =
          let y : held_at n ≡ true = rw e at h in
          rw y (inl (ap (λ (j : ℕ). entry_of (key_at s j) j) e))

  module _ (few : places_in s ≤ 1024) where
    -- the two parts of an entry
    key_is : {v : ℕ} (w : Of v (places_in s)) → key_of v ≡ key_at s w.place
    key_is w = let l = w.low in ap key_of w.is ∙ (let q : key_of (entry_of (key_at s w.place) w.place) ≡ key_at s w.place = omega arith in q)

    place_is : {v : ℕ} (w : Of v (places_in s)) → place_of v ≡ w.place
    place_is w = let l = w.low in ap place_of w.is ∙ (let q : place_of (entry_of (key_at s w.place) w.place) ≡ w.place = omega arith in q)

    kept : (v : ℕ) → Has v (lowest_of s) → Of v (places_in s)
    kept v m = entry_held v (places_in s) (none_made (entries_of s (places_in s)) v m)

    -- a place that holds a key is held, and the key is its own
    own : (k i : ℕ) → holds (clock_of s) k (bytes.cell s i) ≡ true → (key_at s i ≡ k) × (held_at i ≡ true)
    unfolding holds
    own k i h = (eqb-true (key_at s i) k (and_left (eqb (key_at s i) k) _ h), and_right (eqb (key_at s i) k) _ h)

    keys_same : keys_of (lowest_of s) ≡ keys_in s
    keys_same =
        joined (keys_of (lowest_of s)) (keys_in s) (strict_rises (lowest_of s) (each_key_once (entries_of s (places_in s)))) (keys_rise s (places_in s))
        (λ k m.
        let w = key_has k (lowest_of s) m in
        let o = kept w.0 w.1.0 in
        held_keys s k (o.place, (o.low, ap (λ (x : ℕ). holds (clock_of s) x (bytes.cell s o.place)) (w.1.1 ∙ key_is o) ∙ own_key s o.place o.held)))
        (λ k m.
        let w = keys_held_lem s k m in
        let h = own k w.0 w.1.1 in
        let e = held_entry (places_in s) w.0 w.1.0 h.1 in
        let y = lowest_kept (entries_of s (places_in s)) _ e in
        let i : w.0 < places_in s = w.1.0 in
        let q : key_of (entry_of (key_at s w.0) w.0) ≡ key_at s w.0 = omega arith in
        rw (sym h.0 ∙ sym q ∙ sym y.2) (has_key y.0 (lowest_of s) y.1))

    -- what the view of a key is read from
    lowest_place : (v : ℕ) → Has v (lowest_of s) → lowest (λ j. holds (clock_of s) (key_of v) (bytes.cell s j)) (places_in s) ≡ place_of v
    lowest_place v m =
        let w = kept v m in
        let test : ℕ → Bool = λ j. holds (clock_of s) (key_of v) (bytes.cell s j) in
        let at : ℕ = lowest test (places_in s) in
        let passes : test w.place ≡ true = ap (λ (x : ℕ). holds (clock_of s) x (bytes.cell s w.place)) (key_is w) ∙ own_key s w.place w.held in
        let high : at ≤ w.place = order at w.place (λ l. l) (λ l. absurd (clash passes (none_lower test (places_in s) w.place l w.low))) in
        let below : at < places_in s = omega (arith, high, w.low) in
        let h = own (key_of v) at (lowest_passes test (places_in s) below) in
        let y = lowest_kept (entries_of s (places_in s)) _ (held_entry (places_in s) at below h.1) in
        let q : key_of (entry_of (key_at s at) at) ≡ key_at s at = omega arith in
        let same : y.0 ≡ v = one_of_key (lowest_of s) (each_key_once (entries_of s (places_in s))) y.0 v y.1 m (y.2 ∙ q ∙ h.0) in
        let low : v ≤ entry_of (key_at s at) at = rw same at y.3 in
        let k : key_at s at ≡ key_of v = h.0 in
        let f : at ≡ place_of v = omega (arith, low, k, high, place_is w) in
        f

    viewed : (v : ℕ) → Has v (lowest_of s) → view s (key_of v) ≡ Some (track_at s (places_in s) v)
    unfolding view_at
    viewed v m =
        let w = kept v m in
        let e = lowest_place v m in
        let l : place_of v < places_in s = omega (arith, place_is w, w.low) in
        ap (λ (j : ℕ). track_in (cond (ltb j (places_in s)) (Some (bytes.cell s j)) None)) e
        ∙ ap (λ (b : Bool). track_in (cond b (Some (bytes.cell s (place_of v))) None)) (lt-ltb (place_of v) (places_in s) l)

    rows_from_lem : (all : Bool) (l : List ℕ) → ((v : ℕ) → Has v l → view s (key_of v) ≡ Some (track_at s (places_in s) v))
        → rows_at all s (places_in s) l ≡ rows_of all s (keys_of l)
    unfolding rows_at rows_of
    rows_from_lem all [] f = refl
    rows_from_lem all (e ∷ es) f =
        ap₂ (λ (x y : List Row). x ++ y)
        (ap (λ v. as_list (row_for all (key_of e) v)) (sym (f e (inl refl))))
        (rows_from_lem all es (λ v t. f v (inr t)))

    -- the rows of the entries are those of the table
    pub rows_are : (all : Bool) → rows_at all s (places_in s) (lowest_of s) ≡ rows_in all s
    rows_are all = rows_from_lem all (lowest_of s) viewed ∙ ap (rows_of all s) keys_same

    pub all_within : All (Within (places_in s)) (lowest_of s)
    all_within =
        all_of (Within (places_in s)) (lowest_of s)
        (λ v m.
        let w = kept v m in
        let k = before_end (key_at s w.place) (held_is_key s (key_at s w.place) (w.place, (w.low, own_key s w.place w.held))) in
        (omega (arith, place_is w, w.low), omega (arith, key_is w, k)))
