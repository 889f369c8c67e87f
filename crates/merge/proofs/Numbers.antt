-- The digits of a text, walked by their places: at a byte that is no digit and at the end the number is there; a digit goes behind it.
-- Assumes nothing.
use Prim.Native.Nat.{ℕ, ◌+◌, ◌-◌, ◌≤◌, ◌<◌}
use native.Mathlib.Omega.{arith}
use native.Mathlib.Numerals.{add-one}
use mathlib.Core.Path.{◌≡◌, refl, sym, ap, ◌∙◌}
use mathlib.Core.Bool.{Bool, true, false, cond}
use mathlib.Core.List.{List, ◌∷◌}
use lib.ListN.{length, drop, get_or, length-drop, drop_of_length-le}
use lib.Seq.{drop-cons, drop-drop}
use borrow.Author.Tests.{leb-true, leb-false, le-leb, lt-leb}
use lib.Dec.{leb}
use Rattle.fields.proofs.Bools.{each}
use Rattle.form.specs.Form.{is_digit}
use Rattle.merge.specs.Merged.{most, further, number_from, behind}

module _ (s : List ℕ) (i : ℕ) where
  here : i < length s → drop i s ≡ get_or s i 0 ∷ drop (i + 1) s
  here h = drop-cons s i 0 h ∙ ap (λ (k : ℕ). get_or s i 0 ∷ drop k s) (sym (add-one i))

  pub number_stops : i < length s → is_digit (get_or s i 0) ≡ false → (n : ℕ) → number_from n (drop i s) ≡ n
  unfolding number_from
  number_stops h e n = ap (number_from n) (here h) ∙ ap (λ (t : Bool). cond t (number_from (further n (get_or s i 0)) (drop (i + 1) s)) n) e

  pub number_goes : i < length s → is_digit (get_or s i 0) ≡ true → (n : ℕ) → number_from n (drop i s) ≡ number_from (further n (get_or s i 0)) (drop (i + 1) s)
  unfolding number_from
  number_goes h e n = ap (number_from n) (here h) ∙ ap (λ (t : Bool). cond t (number_from (further n (get_or s i 0)) (drop (i + 1) s)) n) e

  pub number_ends : length s ≤ i → (n : ℕ) → number_from n (drop i s) ≡ n
  unfolding number_from
  number_ends h n = ap (number_from n) (drop_of_length-le s h)

  pub behind_stops : i < length s → is_digit (get_or s i 0) ≡ false → behind (drop i s) ≡ drop i s
  unfolding behind
  behind_stops h e = ap behind (here h) ∙ ap (λ (t : Bool). cond t (behind (drop (i + 1) s)) (get_or s i 0 ∷ drop (i + 1) s)) e ∙ sym (here h)

  pub behind_goes : i < length s → is_digit (get_or s i 0) ≡ true → behind (drop i s) ≡ behind (drop (i + 1) s)
  unfolding behind
  behind_goes h e = ap behind (here h) ∙ ap (λ (t : Bool). cond t (behind (drop (i + 1) s)) (get_or s i 0 ∷ drop (i + 1) s)) e

  pub behind_ends : length s ≤ i → behind (drop i s) ≡ drop i s
  unfolding behind
  behind_ends h = ap behind (drop_of_length-le s h) ∙ sym (drop_of_length-le s h)

-- so many bytes behind a place
pub drop_within : (s : List ℕ) (from label : ℕ) → drop (from + label) s ≡ drop label (drop from s)
drop_within s from label = sym (drop-drop label from s)

pub drop_past : (s : List ℕ) (from label : ℕ) → length s - from < label → drop (length s) s ≡ drop label (drop from s)
drop_past s from label h = drop_of_length-le s (let e : length s ≤ length s = omega arith in e) ∙ sym (drop_of_length-le (drop from s) (let e : length (drop from s) ≤ label = omega (arith, length-drop from s) in e))

-- a digit is one of ten
pub digit_range : (b : ℕ) → is_digit b ≡ true → (48 ≤ b) × (b ≤ 57)
digit_range b e =
    let p = each (leb 48 b) (leb b 57) e in
    (leb-true 48 b p.0, leb-true b 57 p.1)

-- a sum has 64 bits if one is at most what is left above the other
sum_by : (x y : ℕ) → x ≤ most → (t : Bool) → leb y (most - x) ≡ t → leb y (most - x) ≡ leb (x + y) most
sum_by x y h true e = e ∙ sym (le-leb (x + y) most (let p = leb-true y (most - x) e in omega arith))
sum_by x y h false e = e ∙ sym (lt-leb (x + y) most (let p = leb-false y (most - x) e in omega arith))

pub sum_fits : (x y : ℕ) → x ≤ most → leb y (most - x) ≡ leb (x + y) most
sum_fits x y h = sum_by x y h (leb y (most - x)) refl
