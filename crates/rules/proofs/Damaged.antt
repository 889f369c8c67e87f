-- A damaged message, one bit of an acceptable one flipped, to any table at any time: 7, then 2, and else 3. By the table of RULES 3.2, in which it earns 3 and not 1. And what a call accepted is acceptable.
-- Assumes nothing.
use Prim.Native.Nat.{ℕ}
use mathlib.Core.Bool.{Bool, true, false, cond}
use mathlib.Core.List.{List}
use mathlib.Core.Path.{◌≡◌, refl}
use native.Mathlib.Omega.{arith}
use Rattle.refusals.specs.Said.{Said, number, gives}
use Rattle.layouts.specs.Said.{Values}
use Rattle.messages.specs.Accepted.{Acceptable}
use Rattle.messages.specs.Damaged.{Damaged}
use Rattle.messages.specs.Said.{earns1, earns3, earns4, earns5}
use Rattle.messages.proofs.Damaged.{damaged_long, damaged_earns_3}
use Rattle.messages.proofs.Exactly.{accepted_exactly}
use Rattle.rules.specs.Form.{Form}
use Rattle.rules.specs.Said.{earns2, earns7, receive_table}

-- an answer that is 7, 2 or 3, and is not 7 and not 2
pub else_3 : {A : Type 0} (b c : Bool) (x : Said A) → x ≡ cond b (number 7) (cond c (number 2) (number 3)) → (x ≡ number 7 → ⊥) → (x ≡ number 2 → ⊥) → x ≡ number 3
else_3 true c x e p q = absurd (p e)
else_3 false true x e p q = absurd (q e)
else_3 false false x e p q = e

no_number : {A B : Type 0} {n : ℕ} {v : A} → number n ≡ gives v → B
no_number e = let y : ◌≡◌ {A = ℕ} 0 1 = cc in let w : ⊥ = omega arith in absurd w

-- whatever comes behind 5
unearned : {A : Type 0} (one seven two three four five : Bool) (rest : Said A) (w : A)
    → cond one (number 1) (cond seven (number 7) (cond two (number 2) (cond three (number 3) (cond four (number 4) (cond five (number 5) rest))))) ≡ gives w
    → (one ≡ false) × (three ≡ false) × (four ≡ false) × (five ≡ false)
unearned true seven two three four five rest w e = no_number e
unearned false true two three four five rest w e = no_number e
unearned false false true three four five rest w e = no_number e
unearned false false false true four five rest w e = no_number e
unearned false false false false true five rest w e = no_number e
unearned false false false false false true rest w e = no_number e
unearned false false false false false false rest w e = (refl, refl, refl, refl)

module _ {S : Type 0} (F : Form S) (s : S) (message : List ℕ) (t : ℕ) where
  -- each exactly when it is due
  pub damaged_table : Damaged message → receive_table F s message t ≡ cond (earns7 F s) (number 7) (cond (earns2 F s t) (number 2) (number 3))
  damaged_table d = rw (damaged_long message d, damaged_earns_3 message d)

  -- what a call accepted is acceptable
  pub taken_acceptable : (v : Values) → receive_table F s message t ≡ gives v → Acceptable message
  taken_acceptable v e =
      (accepted_exactly message).1
      (unearned (earns1 message) (earns7 F s) (earns2 F s t) (earns3 message) (earns4 message) (earns5 message) _ v e)
