-- Parts of a byte string: how long they are, and whether they are zero, one byte after the other.
-- Assumes nothing.
use Prim.Native.Nat.{ℕ, zero, suc, ◌+◌, ◌-◌, ◌<◌, ◌≤◌}
use mathlib.Core.Path.{◌≡◌, refl, sym, ap, ◌∙◌}
use mathlib.Core.Bool.{true}
use mathlib.Core.List.{List, [], ◌∷◌}
use native.Mathlib.Omega.{arith}
use borrow.Author.Tests.{eqb-true}
use lib.Dec.{eqb}
use lib.ListN.{length, get_or, drop, length-take, length-drop}
use lib.Seq.{get_or-take, get_or-drop}
use Rattle.fields.proofs.Bools.{and_left, and_right}
use Rattle.capture.specs.Block.{zeros, part}

pub length_part : (a e : ℕ) (s : List ℕ) → e ≤ length s → length (part a e s) ≡ e - a
length_part a e s h = simp (length-take, length-drop) (omega arith)

zero_at : (s : List ℕ) (j : ℕ) → zeros s ≡ true → get_or s j 0 ≡ 0
zero_at [] j e = refl
zero_at (x ∷ xs) zero e = eqb-true x 0 (and_left (eqb x 0) (zeros xs) e)
zero_at (x ∷ xs) (suc j) e = zero_at xs j (and_right (eqb x 0) (zeros xs) e)

-- a part that is zero has no other byte
pub zero_within : (s : List ℕ) (a e j : ℕ) → zeros (part a e s) ≡ true → a ≤ j → j < e → get_or s j 0 ≡ 0
zero_within s a e j z l h =
    let k : a + (j - a) ≡ j = omega arith in
    ap (λ (i : ℕ). get_or s i 0) (sym k) ∙ sym (get_or-drop a s (j - a) 0) ∙ sym (get_or-take (e - a) (drop a s) (j - a) 0 (omega arith)) ∙ zero_at (part a e s) (j - a) z
