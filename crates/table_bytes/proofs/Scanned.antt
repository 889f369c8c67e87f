-- The search for the lowest place that passes a test, and what each way through the tests of a place gives: by the tests.
-- Assumes nothing.
use Prim.Native.Nat.{ℕ, suc, zero, ◌+◌, ◌*◌, ◌-◌, ◌≤◌, ◌<◌}
use native.Mathlib.Omega.{arith}
use native.Mathlib.Nat.{eq-or-lt_of_le, add-zero}
use native.Mathlib.Numerals.{add-one}
use mathlib.Core.Bool.{Bool, true, false, not, ◌&&◌}
use mathlib.Core.Logic.{⊎_elim}
use mathlib.Core.Path.{◌≡◌, refl, sym, ap, subst, ◌∙◌}
use mathlib.Core.List.{List}
use lib.Dec.{eqb, ltb}
use borrow.Author.Tests.{lt-ltb, le-ltb, ltb-true, ltb-false, eq-eqb, ne_eqb, not-true, not-false}
use Rattle.fields.proofs.Bools.{and_left, and_right}
use Rattle.memory.specs.Offsets.{key_size, key_start}
use Rattle.memory.specs.Bytes.{number_at}
use Rattle.memory.specs.Ranges.{held}
use Rattle.track.specs.Meaning.{meant}
use Rattle.place.specs.Place.{written_in, track_of}
use Rattle.rules.specs.Form as form
use Rattle.rules.specs.Search.{beats}
use Rattle.rules.specs.Search as search
use Rattle.table_bytes.specs.Layout.{Place, key_at, body_at, place_at, is_held, holds}
use Rattle.table_bytes.specs.Scan.{lowest, is_first, target_of}
use Rattle.table_bytes.specs.Code.{none_of, NoneBelow, all_held, better}
use Rattle.table_bytes.specs.Walk.{smallest}

-- none below i, and then one at i, whose test was h
module _ (p : ℕ → Bool) (i : ℕ) (e : lowest p i ≡ i) {h : Bool} (h-is : h ≡ p i) where
  pub lowest_none : h ≡ false → lowest p (i + 1) ≡ i + 1
  lowest_none f = rw (add-one i, e, le-ltb i i (omega arith), ← h-is, f)

  pub lowest_found : h ≡ true → (n : ℕ) → i < n → lowest p n ≡ i
  lowest_found f zero g = absurd (omega arith)
  lowest_found f (suc n) g =
      ⊎_elim
      (λ (k : i ≡ n). rw (← k, e, le-ltb i i (omega arith), ← h-is, f))
      (λ (k : i < n). let r : lowest p n ≡ i = lowest_found f n k in rw (r, lt-ltb i n k))
      (eq-or-lt_of_le (omega arith))

-- of r that fail the test none is the lowest
pub all_fail : (p : ℕ → Bool) (r : ℕ) → ((j : ℕ) → j < r → p j ≡ false) → lowest p r ≡ r
all_fail p zero h = refl
all_fail p (suc r) h = rw (add-one r) at (lowest_none p r (all_fail p r (λ j g. h j (omega arith))) refl (h r (omega arith)))

-- ---- the keys, 4, 8 and 16 at a time

-- a key as it was read
pub same : (key : ℕ) {g k : ℕ} → g ≡ k → eqb g key ≡ eqb k key
same key e = ap (λ (x : ℕ). eqb x key) e

-- 8 tests, one for each key
pub none_8 : (p : ℕ → Bool) (s : List ℕ) (at : ℕ) {t₀ t₁ t₂ t₃ t₄ t₅ t₆ t₇ : Bool}
    → t₀ ≡ p (number_at 4 s at) → t₁ ≡ p (number_at 4 s (at + 4)) → t₂ ≡ p (number_at 4 s (at + 8)) → t₃ ≡ p (number_at 4 s (at + 12))
    → t₄ ≡ p (number_at 4 s (at + 16)) → t₅ ≡ p (number_at 4 s (at + 20)) → t₆ ≡ p (number_at 4 s (at + 24)) → t₇ ≡ p (number_at 4 s (at + 28))
    → not t₀ && not t₁ && not t₂ && not t₃ && not t₄ && not t₅ && not t₆ && not t₇ ≡ none_of p 8 s at
none_8 p s at e₀ e₁ e₂ e₃ e₄ e₅ e₆ e₇ = rw (add-zero at, e₀, e₁, e₂, e₃, e₄, e₅, e₆, e₇) refl

-- and 4
pub none_4 : (p : ℕ → Bool) (s : List ℕ) (at : ℕ) {t₀ t₁ t₂ t₃ : Bool}
    → t₀ ≡ p (number_at 4 s at) → t₁ ≡ p (number_at 4 s (at + 4)) → t₂ ≡ p (number_at 4 s (at + 8)) → t₃ ≡ p (number_at 4 s (at + 12))
    → not t₀ && not t₁ && not t₂ && not t₃ ≡ none_of p 4 s at
none_4 p s at e₀ e₁ e₂ e₃ = rw (add-zero at, e₀, e₁, e₂, e₃) refl

none_each : (p : ℕ → Bool) (m : ℕ) (s : List ℕ) (at : ℕ) → none_of p m s at ≡ true → (k : ℕ) → k < m → p (number_at 4 s (at + key_size * k)) ≡ false
none_each p zero s at h k g = absurd (omega arith)
none_each p (suc m) s at h k g =
    ⊎_elim
    (λ (e : k ≡ m). rw e (not-true _ (and_right (none_of p m s at) _ h)))
    (λ (e : k < m). none_each p m s at (and_left (none_of p m s at) _ h) k e)
    (eq-or-lt_of_le {n = k} {m = m} (omega arith))

pub more : (s : List ℕ) (key m i : ℕ) → NoneBelow s key i → none_of (λ k. eqb k key) m s (key_start i) ≡ true → NoneBelow s key (i + m)
more s key m i below h j g = by_cases (ltb j i) refl
  where
    by_cases : (a : Bool) → ltb j i ≡ a → eqb (number_at 4 s (key_start j)) key ≡ false
    by_cases true e = below j (ltb-true _ _ e)
    by_cases false e =
        let o : key_start i + key_size * (j - i) ≡ key_start j = omega (arith, ltb-false j i e) in
        rw o at (none_each (λ k. eqb k key) m s (key_start i) h (j - i) (omega (arith, ltb-false j i e)))

pub skip_more : (s : List ℕ) (key i : ℕ) {x y : Bool} → NoneBelow s key i
    → x ≡ none_of (λ k. eqb k key) 8 s (key_start i) → y ≡ none_of (λ k. eqb k key) 8 s (key_start i + 32) → not (x && y) ≡ false → NoneBelow s key (i + 16)
skip_more s key i {x} {y} below p q h =
    let two : x && y ≡ true = not-false (x && y) h in
    let o : key_start (i + 8) ≡ key_start i + 32 = omega arith in
    let w : i + 8 + 8 ≡ i + 16 = omega arith in
    subst (NoneBelow s key) w (more s key 8 (i + 8) (more s key 8 i below (sym p ∙ and_left x y two)) (rw o (sym q ∙ and_right x y two)))

-- what was skipped is not held with the key
pub skipped : (s : List ℕ) (n clock key r : ℕ) → NoneBelow s key r → lowest (λ j. holds clock key (place_at s n j)) r ≡ r
unfolding form.holds key_at
skipped s n clock key r h = all_fail (λ j. holds clock key (place_at s n j)) r (λ j g. rw (h j g))

-- ---- the places, 4 at a time

module _ (f : ℕ → Place) (clock : ℕ) where
  pub held_4 : (i : ℕ) {h₀ h₁ h₂ h₃ : Bool} → h₀ ≡ is_held clock (f i) → h₁ ≡ is_held clock (f (i + 1)) → h₂ ≡ is_held clock (f (i + 2)) → h₃ ≡ is_held clock (f (i + 3))
      → h₀ && h₁ && h₂ && h₃ ≡ all_held 4 f i clock
  held_4 i e₀ e₁ e₂ e₃ = rw (add-zero i, e₀, e₁, e₂, e₃) refl

  held_each : (m i : ℕ) → all_held m f i clock ≡ true → (k : ℕ) → k < m → is_held clock (f (i + k)) ≡ true
  held_each zero i h k g = absurd (omega arith)
  held_each (suc m) i h k g =
      ⊎_elim
      (λ (e : k ≡ m). rw e (and_right (all_held m f i clock) _ h))
      (λ (e : k < m). held_each m i (and_left (all_held m f i clock) _ h) k e)
      (eq-or-lt_of_le {n = k} {m = m} (omega arith))

  -- each of the first r places is held
  abbrev pub HeldBelow : ℕ → Type 0
  HeldBelow r = (j : ℕ) → j < r → is_held clock (f j) ≡ true

  four_more : (i : ℕ) → HeldBelow i → all_held 4 f i clock ≡ true → HeldBelow (i + 4)
  four_more i below h j g = by_cases (ltb j i) refl
    where
      by_cases : (b : Bool) → ltb j i ≡ b → is_held clock (f j) ≡ true
      by_cases true l = below j (ltb-true _ _ l)
      by_cases false l =
          let o : i + (j - i) ≡ j = omega (arith, ltb-false j i l) in
          rw o at (held_each 4 i h (j - i) (omega (arith, ltb-false j i l)))

  pub held_more : (i : ℕ) {x y : Bool} → HeldBelow i → x ≡ all_held 4 f i clock → y ≡ all_held 4 f (i + 4) clock → not (x && y) ≡ false → HeldBelow (i + 8)
  held_more i {x} {y} below p q h =
      let two : x && y ≡ true = not-false (x && y) h in
      let w : i + 4 + 4 ≡ i + 8 = omega arith in
      subst HeldBelow w (four_more (i + 4) (four_more i below (sym p ∙ and_left x y two)) (sym q ∙ and_right x y two))

  -- what was skipped is not free
  pub none_free : (r : ℕ) → HeldBelow r → lowest (λ j. not (is_held clock (f j))) r ≡ r
  none_free r h = all_fail (λ j. not (is_held clock (f j))) r (λ j g. rw (h j g))

-- ---- one place: its key as it was read, and its body

module _ (s : List ℕ) (n i clock : ℕ) {k : ℕ} (e : k ≡ number_at 4 s (key_start i)) where
  pub held_as : {p : List ℕ} {h : Bool} → p ≡ body_at s n i → h ≡ held clock k p → h ≡ is_held clock (place_at s n i)
  unfolding key_at held form.is_held track_of written_in meant
  held_as p h = rw (← e, ← p) h

  pub key_yes : (key : ℕ) {p : List ℕ} {h : Bool} → k ≡ key → p ≡ body_at s n i → h ≡ held clock key p → h ≡ holds clock key (place_at s n i)
  unfolding key_at form.holds held form.is_held track_of written_in meant
  key_yes key f p h = rw (← e, f, eq-eqb key key refl, ← p) h

  pub key_no : (key : ℕ) → (k ≡ key → ⊥) → false ≡ holds clock key (place_at s n i)
  unfolding key_at form.holds
  key_no key f = rw (← e, ne_eqb k key f)

-- ---- the walk

-- the best key so far after one place more, whose test was t
module _ (s : List ℕ) (n i clock above best : ℕ) {t : Bool} (t_is : t ≡ beats above best (number_at 4 s (key_start i))) where
  module _ (y : t ≡ true) {h : Bool} (h-is : h ≡ is_held clock (place_at s n i)) where
    pub better_yes : h ≡ true → {k : ℕ} → k ≡ number_at 4 s (key_start i) → k ≡ better clock above best (place_at s n i)
    unfolding search.better key_at
    better_yes z e = rw (← t_is, y, ← h-is, z) e

    pub better_out : h ≡ false → best ≡ better clock above best (place_at s n i)
    unfolding search.better key_at
    better_out z = rw (← t_is, y, ← h-is, z)

  pub better_no : t ≡ false → best ≡ better clock above best (place_at s n i)
  unfolding search.better key_at
  better_no y = rw (← t_is, y)

-- the smallest key of one place more
pub smallest_more : (f : ℕ → Place) (clock above i : ℕ) {best r : ℕ} → best ≡ smallest f clock above i → r ≡ better clock above best (f i) → r ≡ smallest f clock above (i + 1)
smallest_more f clock above i e h = h ∙ rw (e, add-one i) refl

-- .. and of m more, none of whose keys is better
none_better : (s : List ℕ) (n clock above i m : ℕ) {best : ℕ} → best ≡ smallest (place_at s n) clock above i → none_of (beats above best) m s (key_start i) ≡ true
    → best ≡ smallest (place_at s n) clock above (i + m)
none_better s n clock above i zero e h = rw (add-zero i) e
none_better s n clock above i (suc m) {best} e h =
    let o : key_start i + key_size * m ≡ key_start (i + m) = omega arith in
    let z : i + m + 1 ≡ i + suc m = omega arith in
    let w : beats above best (number_at 4 s (key_start i + key_size * m)) ≡ false = not-true (beats above best (number_at 4 s (key_start i + key_size * m))) (and_right (none_of (beats above best) m s (key_start i)) _ h) in
    let q : best ≡ smallest (place_at s n) clock above (i + m) = none_better s n clock above i m e (and_left (none_of (beats above best) m s (key_start i)) _ h) in
    smallest_more (place_at s n) clock above (i + m) q (better_no s n (i + m) clock above best refl (ap (λ (x : ℕ). beats above best (number_at 4 s x)) (sym o) ∙ w))
    ∙ ap (λ (x : ℕ). smallest (place_at s n) clock above x) z

pub none_better_8 : (s : List ℕ) (n clock above i : ℕ) {best : ℕ} {t : Bool} → best ≡ smallest (place_at s n) clock above i
    → t ≡ none_of (beats above best) 8 s (key_start i) → not t ≡ false → best ≡ smallest (place_at s n) clock above (i + 8)
none_better_8 s n clock above i {t = t} e t_is h = none_better s n clock above i 8 e (sym t_is ∙ not-false t h)

-- ---- the first place of a key

module _ (s : List ℕ) (n clock i : ℕ) {h : Bool} (h-is : h ≡ is_held clock (place_at s n i)) where
  pub first_held : h ≡ true → {k j : ℕ} → k ≡ number_at 4 s (key_start i) → j ≡ lowest (λ x. holds clock k (place_at s n x)) n → eqb j i ≡ is_first (place_at s n) n clock i
  unfolding key_at
  first_held y e g =
      ap (λ (x : ℕ). eqb x i) g
      ∙ ap (λ (k : ℕ). eqb (lowest (λ x. holds clock k (place_at s n x)) n) i) e
      ∙ sym (ap (λ (b : Bool). b && eqb (lowest (λ x. holds clock (number_at 4 s (key_start i)) (place_at s n x)) n) i) (sym h-is ∙ y))

  pub first_free : h ≡ false → false ≡ is_first (place_at s n) n clock i
  first_free y = rw (← h-is, y)

-- ---- where a message goes

module _ (f : ℕ → Place) (n clock key : ℕ) {i : ℕ} (i-is : i ≡ lowest (λ j. holds clock key (f j)) n) where
  pub target_held : i < n → record { held = true; at = i } ≡ target_of f n clock key
  target_held h = rw (← i-is, lt-ltb i n h)

  pub target_free : n ≤ i → {j : ℕ} → j ≡ lowest (λ j. not (is_held clock (f j))) n → record { held = false; at = j } ≡ target_of f n clock key
  target_free h e = rw (← i-is, le-ltb i n h, ← e)
