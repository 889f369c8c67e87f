-- The lowest number that passes a test, and the thing found by it: what passes, and no lower one does; where at most one of n things passes, it is that one.
-- Assumes nothing.
use Rattle.std.specs.Prelude.{Option, Some, None}
use Prim.Native.Nat.{ℕ, suc, zero, ◌≤◌, ◌<◌}
use native.Mathlib.Omega.{arith}
use native.Mathlib.Nat.{eq-or-lt_of_le}
use mathlib.Core.Bool.{Bool, true, false, cond, ◌&&◌, true≢false}
use mathlib.Core.Logic.{◌⊎◌, inl, inr, ⊎_elim}
use mathlib.Core.Path.{◌≡◌, refl, ap, sym, ◌∙◌}
use lib.Dec.{ltb, eqb}
use borrow.Author.Tests.{lt-ltb, ltb-true, ltb-false, eqb-true, eqb-false}
use Rattle.fields.proofs.Bools.{each}
use Rattle.rules.specs.Search.{lowest}
use Rattle.rules.specs.View.{look, Once}

pub clash : {x : Bool} → x ≡ true → x ≡ false → ⊥
clash p q = true≢false (sym p ∙ q)

-- a test that can't pass fails
pub fails : (x : Bool) → (x ≡ true → ⊥) → x ≡ false
fails true h = absurd (h refl)
fails false h = refl

pub alike : (i j : ℕ) → (i ≡ j) ⊎ (i ≡ j → ⊥)
alike i j = by_cases (eqb i j) refl
  where
    by_cases : (b : Bool) → eqb i j ≡ b → (i ≡ j) ⊎ (i ≡ j → ⊥)
    by_cases true e = inl (eqb-true i j e)
    by_cases false e = inr (eqb-false i j e)

-- ---- the lowest number

pub lowest_passes : (p : ℕ → Bool) (n : ℕ) → lowest p n < n → p (lowest p n) ≡ true
lowest_passes p zero h = absurd (omega arith)
lowest_passes p (suc n) h = by_cases (ltb (lowest p n) n) (p n) refl refl (lowest_passes p n) h
  where
    by_cases : (a b : Bool) → ltb (lowest p n) n ≡ a → p n ≡ b → (lowest p n < n → p (lowest p n) ≡ true)
        → cond a (lowest p n) (cond b n (suc n)) < suc n → p (cond a (lowest p n) (cond b n (suc n))) ≡ true
    by_cases true b e f r h = r (ltb-true _ _ e)
    by_cases false true e f r h = f
    by_cases false false e f r h = absurd (omega arith)

lowest_least : (p : ℕ → Bool) (n i : ℕ) → i < n → p i ≡ true → lowest p n ≤ i
lowest_least p zero i h t = absurd (omega arith)
lowest_least p (suc n) i h t = by_cases (ltb (lowest p n) n) (p n) refl refl (λ k. lowest_least p n i k t) (eq-or-lt_of_le {n = i} {m = n} (omega arith))
  where
    by_cases : (a b : Bool) → ltb (lowest p n) n ≡ a → p n ≡ b → (i < n → lowest p n ≤ i) → (i ≡ n) ⊎ (i < n) → cond a (lowest p n) (cond b n (suc n)) ≤ i
    by_cases true b e f r (inl k) = omega (arith, ltb-true (lowest p n) n e)
    by_cases true b e f r (inr k) = r k
    by_cases false true e f r (inl k) = omega arith
    by_cases false true e f r (inr k) = absurd (omega (arith, ltb-false (lowest p n) n e, r k))
    by_cases false false e f r (inl k) = absurd (clash (ap p (sym k) ∙ t) f)
    by_cases false false e f r (inr k) = absurd (omega (arith, ltb-false (lowest p n) n e, r k))

-- it is the same where the tests are
pub lowest_same : (p q : ℕ → Bool) (n : ℕ) → ((i : ℕ) → i < n → p i ≡ q i) → lowest p n ≡ lowest q n
lowest_same p q zero h = refl
lowest_same p q (suc n) h = rw (lowest_same p q n (λ i l. h i (omega arith)), h n (omega arith))

-- none below it passes
pub none_lower : (p : ℕ → Bool) (n i : ℕ) → i < lowest p n → i < n → p i ≡ false
none_lower p n i l h = fails (p i) (λ t. omega (arith, lowest_least p n i h t))

pub none_passes : (p : ℕ → Bool) (n : ℕ) → ltb (lowest p n) n ≡ false → (i : ℕ) → i < n → p i ≡ false
none_passes p n e i h = fails (p i) (λ f. omega (arith, ltb-false (lowest p n) n e, lowest_least p n i h f))

-- ---- the thing found

-- what is left of a thing found that must pass a second test
abbrev pub keep : {C : Type 0} → (C → Bool) → Option C → Option C
keep young None = None
keep young (Some c) = cond (young c) (Some c) None

module _ {C : Type 0} (is : C → Bool) where
  module _ (f : ℕ → C) (n : ℕ) where
    abbrev at : ℕ
    at = lowest (λ i. is (f i)) n

    abbrev Hit : Type 0
    Hit = (i : ℕ) × ((i < n) × (is (f i) ≡ true))

    abbrev Miss : Type 0
    Miss = (i : ℕ) → i < n → is (f i) ≡ false

    -- one passes, and none below it
    pub look_first : (i : ℕ) → i < n → is (f i) ≡ true → ((j : ℕ) → j < i → is (f j) ≡ false) → look is f n ≡ Some (f i)
    look_first i h t lower =
        let l : at ≤ i = lowest_least (λ j. is (f j)) n i h t in
        let e : at ≡ i = ⊎_elim (λ (e : at ≡ i). e) (λ (l : at < i). absurd (clash (lowest_passes (λ j. is (f j)) n (omega arith)) (lower at l))) (eq-or-lt_of_le l) in
        rw (e, lt-ltb i n h)

    look_hit : Once is f n → (i : ℕ) → i < n → is (f i) ≡ true → look is f n ≡ Some (f i)
    look_hit u i h t = look_first i h t (λ j l. fails (is (f j)) (λ p. omega (arith, u j i (omega arith) h p t)))

    pub look_miss : Miss → look is f n ≡ None
    look_miss a = by_cases (ltb at n) refl
      where
        by_cases : (b : Bool) → ltb at n ≡ b → cond b (Some (f at)) None ≡ None
        by_cases true e = let m : at < n = ltb-true _ _ e in absurd (clash (lowest_passes (λ j. is (f j)) n m) (a at m))
        by_cases false e = refl

    hit_or_miss : Hit ⊎ Miss
    hit_or_miss = by_cases (ltb at n) refl
      where
        by_cases : (b : Bool) → ltb at n ≡ b → Hit ⊎ Miss
        by_cases true e = let m : at < n = ltb-true _ _ e in inl (at, (m, lowest_passes (λ j. is (f j)) n m))
        by_cases false e = inr (none_passes (λ j. is (f j)) n e)

  -- things that pass the test at the same numbers
  module _ (f g : ℕ → C) (n : ℕ) (same : (i : ℕ) → i < n → is (g i) ≡ is (f i)) where
    pub once_same : Once is f n → Once is g n
    once_same u i j h k p q = u i j h k (sym (same i h) ∙ p) (sym (same j k) ∙ q)

    -- and are the same there
    pub look_same : ((i : ℕ) → i < n → is (f i) ≡ true → g i ≡ f i) → look is g n ≡ look is f n
    look_same e =
        ap (λ (l : ℕ). cond (ltb l n) (Some (g l)) None) (lowest_same (λ i. is (g i)) (λ i. is (f i)) n same)
        ∙ by_cases (ltb (at f n) n) refl
      where
        by_cases : (b : Bool) → ltb (at f n) n ≡ b → cond b (Some (g (at f n))) None ≡ cond b (Some (f (at f n))) None
        by_cases true h = let m : at f n < n = ltb-true _ _ h in ap Some (e (at f n) m (lowest_passes (λ i. is (f i)) n m))
        by_cases false h = refl

  -- one thing passes the test, and no other
  pub once_only : (g : ℕ → C) (n i : ℕ) → ((j : ℕ) → j < n → (j ≡ i → ⊥) → is (g j) ≡ false) → Once is g n
  once_only g n i others j k hj hk p q = only j hj p ∙ sym (only k hk q)
    where
      only : (j : ℕ) → j < n → is (g j) ≡ true → j ≡ i
      only j k p = ⊎_elim (λ (e : j ≡ i). e) (λ (e : j ≡ i → ⊥). absurd (clash p (others j k e))) (alike j i)

-- some things pass no longer
module _ {C : Type 0} (was is young : C → Bool) (e : (c : C) → is c ≡ was c && young c) (f : ℕ → C) (n : ℕ) (u : Once was f n) where
  still : (c : C) → is c ≡ true → (was c ≡ true) × (young c ≡ true)
  still c h = each (was c) (young c) (sym (e c) ∙ h)

  pub once_aged : Once is f n
  once_aged i j h k p q = u i j h k (still (f i) p).0 (still (f j) q).0

  pub look_aged : look is f n ≡ keep young (look was f n)
  look_aged = ⊎_elim (λ (w : Hit was f n). at_hit w.0 w.1.0 w.1.1 (young (f w.0)) refl) at_miss (hit_or_miss was f n)
    where
      at_miss : Miss was f n → look is f n ≡ keep young (look was f n)
      at_miss w = look_miss is f n (λ i h. e (f i) ∙ ap (λ (b : Bool). b && young (f i)) (w i h)) ∙ sym (ap (keep young) (look_miss was f n w))

      at_hit : (i : ℕ) → i < n → was (f i) ≡ true → (b : Bool) → young (f i) ≡ b → look is f n ≡ keep young (look was f n)
      at_hit i h t true y = look_hit is f n once_aged i h (e (f i) ∙ rw (t, y)) ∙ sym (ap (keep young) (look_hit was f n u i h t) ∙ ap (λ (b : Bool). cond b (Some (f i)) None) y)
      at_hit i h t false y =
          look_miss is f n (λ j k. fails (is (f j)) (λ p. clash (still (f j) p).1 (ap (λ (m : ℕ). young (f m)) (u j i k h (still (f j) p).0 t) ∙ y)))
          ∙ sym (ap (keep young) (look_hit was f n u i h t) ∙ ap (λ (b : Bool). cond b (Some (f i)) None) y)
