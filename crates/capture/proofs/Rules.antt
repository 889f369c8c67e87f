-- What a good block has, and what `block_of`'s answer tells: by the cases of the tests.
-- Assumes nothing.
use Rattle.std.specs.Prelude.{Result, Ok, Err}
use Prim.Native.Nat.{ℕ, ◌<◌, ◌≤◌}
use mathlib.Core.Path.{◌≡◌, refl, subst}
use mathlib.Core.Bool.{Bool, true, false, ◌&&◌}
use mathlib.Core.List.{List}
use borrow.Author.Tests.{eqb-true, leb-true, eq-eqb, le-leb}
use lib.Dec.{eqb, leb}
use lib.ListN.{length, get_or}
use Rattle.refusals.specs.declared.Refusal.TheVariants as refusal
use Rattle.refusals.specs.declared.Refusal.{Refusal}
use Rattle.fields.proofs.Bools.{each, by_test}
use Rattle.parity.specs.Parity.{remainder}
use Rattle.capture.specs.Block.{zeros, part, count_of, start_of, good, block_of, Kept}
use Rattle.capture.proofs.Parts.{zero_within}

pub all_three : (a b c : Bool) → a && b && c ≡ true → (a ≡ true) × (b ≡ true) × (c ≡ true)
all_three a b c e =
    let p = each (a && b) c e in
    let q = each a b p.0 in
    (q.0, q.1, p.1)

-- a good block keeps each of the rules
pub good_keeps : (b : List ℕ) → good b ≡ true → Kept b
unfolding good
good_keeps b e =
    let p = all_three (eqb (length b) 512 && leb 1 (count_of b) && leb (count_of b) 23) (zeros (part (start_of (count_of b)) 509 b)) (eqb (remainder b) 0) e in
    let q = all_three (eqb (length b) 512) (leb 1 (count_of b)) (leb (count_of b) 23) p.0 in
    record { size = eqb-true _ _ q.0; some = leb-true _ _ q.1; most = leb-true _ _ q.2; unused = p.1; parity = eqb-true _ _ p.2 }

-- and what keeps them is good
pub kept_good : (b : List ℕ) → Kept b → good b ≡ true
unfolding good
kept_good b k =
    rw (eq-eqb (length b) 512 k.size, le-leb 1 (count_of b) k.some, le-leb (count_of b) 23 k.most, k.unused, eq-eqb (remainder b) 0 k.parity)

-- every byte of its unused records is zero
pub unused_zero : (b : List ℕ) (j : ℕ) → good b ≡ true → start_of (count_of b) ≤ j → j < 509 → get_or b j 0 ≡ 0
unused_zero b j e = zero_within b (start_of (count_of b)) 509 j (good_keeps b e).unused

abbrev Told : List ℕ → Result ℕ Refusal → Type 0
Told b (Ok n) = (good b ≡ true) × (n ≡ count_of b)
Told b (Err r) = (good b ≡ false) × (r ≡ refusal.Block)

told : (b : List ℕ) → Told b (block_of b)
told b = by_test (Told b) (good b) _ _ (λ h. (h, refl)) (λ h. (h, refl))

-- what is called good keeps the rules, and has so many records
pub block_good : (b : List ℕ) (n : ℕ) → block_of b ≡ Ok n → (good b ≡ true) × (n ≡ count_of b)
block_good b n e = subst (Told b) e (told b)

-- what is refused fails a rule, and gets 11
pub block_refused : (b : List ℕ) (r : Refusal) → block_of b ≡ Err r → (good b ≡ false) × (r ≡ refusal.Block)
block_refused b r e = subst (Told b) e (told b)
