-- Filling an array entry by entry: what i steps have filled is an array of i entries, and one more entry is the value there, or 0.
-- Assumes nothing.
use Prim.Native.Nat.{ℕ, zero, suc, ◌+◌, ◌<◌}
use mathlib.Core.Path.{◌≡◌, refl, sym, ap, ◌∙◌}
use mathlib.Core.List.{List, [], ◌∷◌, ◌++◌}
use native.Mathlib.Nat.{not-suc-le-zero, le_of_suc-le-suc}
use native.Mathlib.Numerals.{add-one}
use lib.ListN.{length, take, get_or, set, replicate}
use lib.Seq.{take-suc-set, take-length}
use Rattle.entries.specs.Arrays.{filled, filled_by}

module _ {A : Type 0} (rest : A) where
  one_more : (i : ℕ) (values : List A) → filled_by rest i values ++ (get_or values i rest ∷ []) ≡ filled_by rest (suc i) values
  one_more zero [] = refl
  one_more zero (x ∷ values) = refl
  one_more (suc i) [] = ap (λ (l : List A). rest ∷ l) (one_more i [])
  one_more (suc i) (x ∷ values) = ap (λ (l : List A). x ∷ l) (one_more i values)

  pub fill_more : (s values : List A) (i : ℕ) (v : A) → i < length s → v ≡ get_or values i rest → take i s ≡ filled_by rest i values → take (i + 1) (set s i v) ≡ filled_by rest (i + 1) values
  fill_more s values i v h q e =
      ap (λ (n : ℕ). take n (set s i v)) (add-one i)
      ∙ take-suc-set s i v h
      ∙ ap (λ (l : List A). l ++ (v ∷ [])) e
      ∙ ap (λ (x : A). filled_by rest i values ++ (x ∷ [])) q
      ∙ one_more i values
      ∙ sym (ap (λ (n : ℕ). filled_by rest n values) (add-one i))

  pub fill_whole : (s values : List A) (i n : ℕ) → i ≡ length s → n ≡ length s → take i s ≡ filled_by rest i values → s ≡ filled_by rest n values
  fill_whole s values i n p q e = sym (take-length s) ∙ rw (← p) e ∙ ap (λ (m : ℕ). filled_by rest m values) (p ∙ sym q)

-- zeros behind the values change nothing
pub filled_zeros : (n : ℕ) (values : List ℕ) (k : ℕ) → filled n (values ++ replicate k 0) ≡ filled n values
filled_zeros zero values k = refl
filled_zeros (suc n) [] zero = refl
filled_zeros (suc n) [] (suc k) = ap (λ (l : List ℕ). 0 ∷ l) (filled_zeros n [] k)
filled_zeros (suc n) (x ∷ values) k = ap (λ (l : List ℕ). x ∷ l) (filled_zeros n values k)

-- an entry of the array is that of the values
pub filled_at : (n : ℕ) (values : List ℕ) (i : ℕ) → i < n → get_or (filled n values) i 0 ≡ get_or values i 0
filled_at zero values i h = absurd (not-suc-le-zero h)
filled_at (suc n) [] zero h = refl
filled_at (suc n) [] (suc i) h = filled_at n [] i (le_of_suc-le-suc h)
filled_at (suc n) (x ∷ values) zero h = refl
filled_at (suc n) (x ∷ values) (suc i) h = filled_at n values i (le_of_suc-le-suc h)

pub filled_is : (n : ℕ) (values : List ℕ) → filled_by 0 n values ≡ filled n values
filled_is zero values = refl
filled_is (suc n) [] = ap (λ (l : List ℕ). 0 ∷ l) (filled_is n [])
filled_is (suc n) (x ∷ values) = ap (λ (l : List ℕ). x ∷ l) (filled_is n values)
