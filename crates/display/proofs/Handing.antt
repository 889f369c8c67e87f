-- What a whole listing hands over, by what the crate below answers: the tests are the same, and come in the same order.
-- Assumes nothing.
use Rattle.std.specs.Prelude.{Result, Ok, Err}
use Prim.Native.Nat.{ℕ, suc}
use native.Mathlib.Omega.{arith}
use mathlib.Core.Path.{◌≡◌, refl, sym, ap, ◌∙◌}
use mathlib.Core.Bool.{Bool, true, false, cond, not, ◌&&◌}
use mathlib.Core.List.{List, [], ◌∷◌}
use lib.Dec.{eqb, ltb}
use lib.ListN.{length, set}
use borrow.Author.Tests.{eq-eqb, ne_eqb}
use Rattle.refusals.specs.declared.Refusal.{Refusal}
use Rattle.refusals.specs.declared.Refusal.TheVariants.{Length, Places}
use Rattle.refusals.specs.Numbers.{number_of}
use Rattle.memory.specs.Offsets.{whole_places}
use Rattle.entries.specs.Arrays.{filled}
use Rattle.report.specs.Listing.{listing}
use Rattle.whole.specs.Whole.{room_for, order_after, Left, left, listed}
use Rattle.display.specs.Lines.{chosen}
use Rattle.display.specs.Handed.{Handed, handed, listing_into}
use Rattle.display.specs.Code.{no_choice, no_listing}

-- by the answer
abbrev answered : Result ℕ Refusal → List ℕ → List ℕ → List ℕ → Handed
answered (Ok n) order out written = handed 0 order out (n ∷ [])
answered (Err r) order out written = handed (number_of r) order out written

abbrev handed_by : Left → List ℕ → Handed
handed_by l written = answered l.answer l.order l.out written

only : (l : List ℕ) (n : ℕ) → length l ≡ 1 → set l 0 n ≡ n ∷ []
only [] n e = absurd (omega arith)
only (x ∷ []) n e = refl
only (x ∷ y ∷ l) n e = absurd (omega arith)

module _ (all : ℕ) (s : List ℕ) (bad : ℕ) (order out written : List ℕ) where
  abbrev text : List ℕ
  text = listing (chosen all) s bad

  -- after the lengths
  abbrev rest : Handed
  rest =
      cond (not (whole_places (length s))) (handed 7 order out written)
      (cond (ltb 1 all) (handed 8 order out written) (handed 0 (order_after s order) (filled (length out) text) (length text ∷ [])))

  abbrev room : Bool
  room = room_for s (length order) (length out)

  pub not_one : (length written ≡ 1 → ⊥) → handed 1 order out written ≡ listing_into all s bad order out written
  unfolding listing_into
  not_one h = by_test room
    where
      by_test : (b : Bool) → handed 1 order out written
          ≡ cond (not (b && eqb (length written) 1)) (handed 1 order out written) rest
      by_test true = rw (ne_eqb (length written) 1 h)
      by_test false = refl

  module _ (one : length written ≡ 1) where
    into : listing_into all s bad order out written ≡ cond (not room) (handed 1 order out written) rest
    unfolding listing_into
    into = rw (eq-eqb (length written) 1 one) (by_test room)
      where
        by_test : (b : Bool) → cond (not (b && true)) (handed 1 order out written) rest ≡ cond (not b) (handed 1 order out written) rest
        by_test true = refl
        by_test false = refl

    pub not_chosen : {r : ℕ} → ltb 1 all ≡ true → r ≡ no_listing s (length order) (length out) → handed r order out written ≡ listing_into all s bad order out written
    not_chosen h e = ap (λ (n : ℕ). handed n order out written) e ∙ by_tests room (whole_places (length s)) ∙ sym (into ∙ rw h)
      where
        by_tests : (a b : Bool) → handed (cond (not a) 1 (cond (not b) 7 8)) order out written
            ≡ cond (not a) (handed 1 order out written) (cond (not b) (handed 7 order out written) (handed 8 order out written))
        by_tests true true = refl
        by_tests true false = refl
        by_tests false b = refl

    handed_as : ltb 1 all ≡ false → handed_by (listed (chosen all) s bad order out) written ≡ listing_into all s bad order out written
    unfolding listed
    handed_as h = by_tests room (whole_places (length s)) ∙ sym (into ∙ rw h)
      where
        by_tests : (a b : Bool) →
            handed_by (cond (not a) (left (Err Length) order out) (cond (not b) (left (Err Places) order out) (left (Ok (length text)) (order_after s order) (filled (length out) text)))) written
            ≡ cond (not a) (handed 1 order out written) (cond (not b) (handed 7 order out written) (handed 0 (order_after s order) (filled (length out) text) (length text ∷ [])))
        by_tests true true = refl
        by_tests true false = refl
        by_tests false b = refl

    module _ (h : ltb 1 all ≡ false) {a : Result ℕ Refusal} {o x : List ℕ} (e : left a o x ≡ listed (chosen all) s bad order out) where
      pub text_handed : {n m : ℕ} → a ≡ Ok n → m ≡ n → handed 0 o x (set written 0 m) ≡ listing_into all s bad order out written
      text_handed {n} {m} q p =
          ap (handed 0 o x) (only written m one ∙ ap (λ (k : ℕ). k ∷ []) p)
          ∙ sym (ap (λ (y : Result ℕ Refusal). answered y o x written) q)
          ∙ ap (λ (l : Left). handed_by l written) e
          ∙ handed_as h

      pub number_handed : {r : Refusal} {k : ℕ} → a ≡ Err r → k ≡ number_of r → handed k o x written ≡ listing_into all s bad order out written
      number_handed q p =
          ap (λ (j : ℕ). handed j o x written) p
          ∙ sym (ap (λ (y : Result ℕ Refusal). answered y o x written) q)
          ∙ ap (λ (l : Left). handed_by l written) e
          ∙ handed_as h
