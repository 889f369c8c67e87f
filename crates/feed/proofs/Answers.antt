-- What an answer tells of the table, of the count and of what is left: by the cases of the test of the table's length, and of the block's own rules.
-- Assumes nothing.
use Rattle.std.specs.Prelude.{Result, Ok, Err}
use Prim.Native.Nat.{ℕ}
use mathlib.Core.Path.{◌≡◌, refl, sym, subst}
use mathlib.Core.Bool.{true, false, not}
use mathlib.Core.List.{List}
use borrow.Author.Tests.{not-true, not-false}
use lib.ListN.{length}
use Rattle.refusals.specs.declared.Refusal.{Refusal}
use Rattle.refusals.specs.declared.Refusal.TheVariants.{Places}
use Rattle.fields.proofs.Bools.{by_test}
use Rattle.capture.specs.Block.{good}
use Rattle.memory.specs.Offsets.{whole_places}
use Rattle.table.specs.Table.{After, after}
use Rattle.feed.specs.Feed.{block_into, blocks_in, blocks_into, bad_in, counted, fed, fed_block}

-- of a table s: where it has whole places, the count and the table that are due; else 7, and the table as it was
abbrev Told : List ℕ → ℕ → List ℕ → Result ℕ Refusal → List ℕ → Type 0
Told s n l (Ok m) k = (whole_places (length s) ≡ true) × (m ≡ n) × (k ≡ l)
Told s n l (Err r) k = (whole_places (length s) ≡ false) × (r ≡ Places) × (k ≡ s)

abbrev Tells : List ℕ → ℕ → List ℕ → After (Result ℕ Refusal) → Type 0
Tells s n l x = Told s n l x.answer x.table

fed_tells : (s c : List ℕ) → Tells s (bad_in c (blocks_in c)) (blocks_into s c (blocks_in c)) (fed s c)
unfolding fed
fed_tells s c = by_test (Tells s (bad_in c (blocks_in c)) (blocks_into s c (blocks_in c))) (not (whole_places (length s))) _ _ (λ h. (not-true _ h, refl, refl)) (λ h. (not-false _ h, refl, refl))

block_tells : (s b : List ℕ) (n : ℕ) → Tells s (counted n (good b)) (block_into s b) (fed_block s b n)
unfolding fed_block
block_tells s b n = by_test (Tells s (counted n (good b)) (block_into s b)) (not (whole_places (length s))) _ _ (λ h. (not-true _ h, refl, refl)) (λ h. (not-false _ h, refl, refl))

module _ (s c : List ℕ) {l : List ℕ} where
  pub fed_bad : (n : ℕ) → after (Ok n) l ≡ fed s c → (whole_places (length s) ≡ true) × (n ≡ bad_in c (blocks_in c)) × (l ≡ blocks_into s c (blocks_in c))
  fed_bad n e = subst (Tells s (bad_in c (blocks_in c)) (blocks_into s c (blocks_in c))) (sym e) (fed_tells s c)

  -- the one refusal is 7, for a table that has not whole places, and changes nothing
  pub fed_refused : (r : Refusal) → after (Err r) l ≡ fed s c → (whole_places (length s) ≡ false) × (r ≡ Places) × (l ≡ s)
  fed_refused r e = subst (Tells s (bad_in c (blocks_in c)) (blocks_into s c (blocks_in c))) (sym e) (fed_tells s c)

module _ (s b : List ℕ) (n : ℕ) {l : List ℕ} where
  pub block_bad : (m : ℕ) → after (Ok m) l ≡ fed_block s b n → (whole_places (length s) ≡ true) × (m ≡ counted n (good b)) × (l ≡ block_into s b)
  block_bad m e = subst (Tells s (counted n (good b)) (block_into s b)) (sym e) (block_tells s b n)

  pub block_refused : (r : Refusal) → after (Err r) l ≡ fed_block s b n → (whole_places (length s) ≡ false) × (r ≡ Places) × (l ≡ s)
  block_refused r e = subst (Tells s (counted n (good b)) (block_into s b)) (sym e) (block_tells s b n)

-- a bad block is skipped: not one of its records is received
pub bad_skipped : (s b : List ℕ) → good b ≡ false → block_into s b ≡ s
unfolding block_into
bad_skipped s b e = rw e
