-- What two listings as one hand over, by what the crate below answers: the tests are the same, and come in the same order.
-- Assumes nothing.
use Rattle.std.specs.Prelude.{Result, Ok, Err}
use Prim.Native.Nat.{ℕ, ◌+◌}
use native.Mathlib.Omega.{arith}
use mathlib.Core.Path.{◌≡◌, refl, sym, ap, ◌∙◌}
use mathlib.Core.Bool.{Bool, true, false, cond, not, ◌&&◌}
use mathlib.Core.List.{List, [], ◌∷◌}
use lib.Dec.{eqb}
use lib.ListN.{length, set}
use borrow.Author.Tests.{eq-eqb, ne_eqb}
use Rattle.refusals.specs.declared.Refusal.{Refusal}
use Rattle.refusals.specs.declared.Refusal.TheVariants.{Length, Form}
use Rattle.refusals.specs.Numbers.{number_of}
use Rattle.entries.specs.Arrays.{filled}
use Rattle.merge.specs.Merged.{mergeable, merged, Left, left, merged_into}
use Rattle.dealer.specs.Joint.{Joint, joint, merge_into}

-- by the answer
abbrev answered : Result ℕ Refusal → List ℕ → List ℕ → Joint
answered (Ok n) out written = joint 0 out (n ∷ [])
answered (Err r) out written = joint (number_of r) out written

abbrev joint_by : Left → List ℕ → Joint
joint_by l written = answered l.answer l.out written

only : (l : List ℕ) (n : ℕ) → length l ≡ 1 → set l 0 n ≡ n ∷ []
only [] n e = absurd (omega arith)
only (x ∷ []) n e = refl
only (x ∷ y ∷ l) n e = absurd (omega arith)

module _ (a b out written : List ℕ) where
  abbrev room : Bool
  room = eqb (length out) (length a + length b)

  -- after the lengths
  abbrev rest : Joint
  rest = cond (not (mergeable a b)) (joint 16 out written) (joint 0 (filled (length out) (merged a b)) (length (merged a b) ∷ []))

  pub not_one : (length written ≡ 1 → ⊥) → joint 1 out written ≡ merge_into a b out written
  unfolding merge_into
  not_one h = by_test room
    where
      by_test : (t : Bool) → joint 1 out written ≡ cond (not (t && eqb (length written) 1)) (joint 1 out written) rest
      by_test true = rw (ne_eqb (length written) 1 h)
      by_test false = refl

  module _ (one : length written ≡ 1) where
    into : merge_into a b out written ≡ cond (not room) (joint 1 out written) rest
    unfolding merge_into
    into = rw (eq-eqb (length written) 1 one) (by_test room)
      where
        by_test : (t : Bool) → cond (not (t && true)) (joint 1 out written) rest ≡ cond (not t) (joint 1 out written) rest
        by_test true = refl
        by_test false = refl

    joint_as : joint_by (merged_into a b out) written ≡ merge_into a b out written
    unfolding merged_into
    joint_as = by_tests room (mergeable a b) ∙ sym into
      where
        by_tests : (t u : Bool) →
            joint_by (cond (not t) (left (Err Length) out) (cond (not u) (left (Err Form) out) (left (Ok (length (merged a b))) (filled (length out) (merged a b))))) written
            ≡ cond (not t) (joint 1 out written) (cond (not u) (joint 16 out written) (joint 0 (filled (length out) (merged a b)) (length (merged a b) ∷ [])))
        by_tests true true = refl
        by_tests true false = refl
        by_tests false u = refl

    module _ {r : Result ℕ Refusal} {x : List ℕ} (e : left r x ≡ merged_into a b out) where
      pub text_joint : {n m : ℕ} → r ≡ Ok n → m ≡ n → joint 0 x (set written 0 m) ≡ merge_into a b out written
      text_joint {n} {m} q p =
          ap (joint 0 x) (only written m one ∙ ap (λ (k : ℕ). k ∷ []) p)
          ∙ sym (ap (λ (y : Result ℕ Refusal). answered y x written) q)
          ∙ ap (λ (l : Left). joint_by l written) e
          ∙ joint_as

      pub number_joint : {k : Refusal} {n : ℕ} → r ≡ Err k → n ≡ number_of k → joint n x written ≡ merge_into a b out written
      number_joint q p =
          ap (λ (j : ℕ). joint j x written) p
          ∙ sym (ap (λ (y : Result ℕ Refusal). answered y x written) q)
          ∙ ap (λ (l : Left). joint_by l written) e
          ∙ joint_as
