-- The key of a line, by its letter: what the steps of `key_in` have said, put together.
-- Assumes nothing.
use Prim.Native.Nat.{ℕ, ◌-◌}
use mathlib.Core.Path.{◌≡◌, sym, ap, ap₂, ◌∙◌}
use mathlib.Core.Bool.{true, false}
use mathlib.Core.List.{List}
use borrow.Author.Tests.{eq-eqb, ne_eqb}
use Rattle.keys.specs.declared.Kind.{Kind}
use Rattle.keys.specs.declared.Kind.TheVariants.{C}
use Rattle.keys.specs.Keys.{key_for}
use Rattle.merge.specs.Merged.{byte_at, address_of, kind_by, sender_fits, flag_of, station_of, key_in}

module _ (l : List ℕ) (letter address : ℕ) (is : letter ≡ byte_at l 0) (at : address ≡ address_of l) where
  pub fine_key : (letter ≡ 67 → ⊥) → (k : Kind) → k ≡ kind_by letter → (r : ℕ) → r ≡ key_for k address → r ≡ key_in l
  unfolding key_in
  fine_key n k e r p = p ∙ ap₂ (λ (x : Kind) (y : ℕ). key_for x y) (e ∙ ap kind_by is) at ∙ sym (simp (ne_eqb (byte_at l 0) 67 (λ h. n (is ∙ h))))

  pub no_key : letter ≡ 67 → sender_fits l ≡ false → 0 ≡ key_in l
  unfolding key_in
  no_key e f = sym (simp (eq-eqb (byte_at l 0) 67 (sym is ∙ e), f))

  pub coarse_key : letter ≡ 67 → sender_fits l ≡ true → (flag station : ℕ) → flag ≡ byte_at l 9 - 48 → station ≡ station_of l → (r : ℕ) → r ≡ key_for (C flag station) address → r ≡ key_in l
  unfolding key_in flag_of
  coarse_key e f flag station p q r h =
      h
      ∙ ap₂ (λ (x : Kind) (y : ℕ). key_for x y) (ap₂ (λ (x y : ℕ). C x y) p q) at
      ∙ sym (simp (eq-eqb (byte_at l 0) 67 (sym is ∙ e), f))
