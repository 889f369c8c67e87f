-- The ways out of a call: an array of a wrong length, and one of the right length by what the crate below answered.
-- Assumes nothing.
use Prim.Native.Nat.{ℕ}
use mathlib.Core.Path.{◌≡◌, sym, ap, ◌∙◌}
use mathlib.Core.Bool.{Bool, true, false, cond}
use mathlib.Core.List.{List}
use borrow.Author.Tests.{eq-eqb, ne_eqb}
use lib.ListN.{length}
use Rattle.refusals.specs.Said.{Said, number, gives}
use Rattle.entries.specs.Sent.{Sent, sent, given, into}

pub into_wrong : (n : ℕ) (out : List ℕ) (said : Said (List ℕ)) → (length out ≡ n → ⊥) → sent 1 out ≡ into n out said
unfolding into
into_wrong n out said h = rw (ne_eqb _ _ h)

pub into_given : (n : ℕ) (out : List ℕ) (said : Said (List ℕ)) {s : Sent} → length out ≡ n → s ≡ given out said → s ≡ into n out said
unfolding into
into_given n out said h p = p ∙ rw (eq-eqb _ _ h)

-- the answer a is x by the match
module _ {A : Type 0} (f : A → Said (List ℕ)) (out : List ℕ) {a x : A} (m : a ≡ x) where
  pub given_as : {s : Sent} → s ≡ given out (f x) → s ≡ given out (f a)
  given_as p = p ∙ ap (λ y. given out (f y)) (sym m)

  pub given_number : {r k : ℕ} → f x ≡ number k → r ≡ k → sent r out ≡ given out (f a)
  given_number q p = given_as (ap (λ (j : ℕ). sent j out) p ∙ ap (given out) (sym q))

  -- .. and b by its contract
  module _ (n : ℕ) (h : length out ≡ n) {b : A} (e : a ≡ b) where
    pub into_right : {s : Sent} → s ≡ given out (f x) → s ≡ into n out (f b)
    into_right p = into_given n out (f b) h (given_as p ∙ ap (λ y. given out (f y)) e)

    pub into_refused : {r k : ℕ} → f x ≡ number k → r ≡ k → sent r out ≡ into n out (f b)
    into_refused q p = into_given n out (f b) h (given_number q p ∙ ap (λ y. given out (f y)) e)

-- a list that is another's
pub given_list : (out : List ℕ) {l k : List ℕ} {s : Sent} → l ≡ k → s ≡ given out (gives l) → s ≡ given out (gives k)
given_list out e p = p ∙ ap (λ (x : List ℕ). given out (gives x)) e

-- a test before the call below
pub stopped : (out : List ℕ) (t : Bool) (k : ℕ) (said : Said (List ℕ)) → t ≡ true → sent k out ≡ given out (cond t (number k) said)
stopped out t k said h = rw h

pub passed : (out : List ℕ) (t : Bool) (other said : Said (List ℕ)) → t ≡ false → given out said ≡ given out (cond t other said)
passed out t other said h = rw h
