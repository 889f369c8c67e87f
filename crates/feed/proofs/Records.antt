-- The records of a capture, counted block by block: what one more block adds.
-- Assumes nothing.
use Rattle.std.specs.Prelude.{Ok, Err}
use Prim.Native.Nat.{ℕ, ◌+◌, ◌≤◌}
use native.Mathlib.Omega.{arith}
use native.Mathlib.Numerals.{add-one}
use mathlib.Core.Bool.{Bool, cond}
use mathlib.Core.List.{List}
use mathlib.Core.Path.{◌≡◌, sym, ap, ap₂, ◌∙◌}
use Rattle.refusals.specs.declared.Refusal.{Refusal}
use Rattle.capture.specs.Block.{count_of, block_of}
use Rattle.capture.proofs.Rules.{good_keeps, block_good, block_refused}
use Rattle.feed.specs.Feed.{block_at, good_records, records_in}

module _ (b : List ℕ) where
  pub records_good : (n : ℕ) → block_of b ≡ Ok n → (n ≡ good_records b) × (n ≤ 23)
  records_good n e =
      let p = block_good b n e in
      (p.1 ∙ sym (ap (λ (t : Bool). cond t (count_of b) 0) p.0), omega (arith, (good_keeps b p.0).most, p.1))

  pub records_bad : (r : Refusal) → block_of b ≡ Err r → (0 ≡ good_records b) × (0 ≤ 23)
  records_bad r e = (sym (ap (λ (t : Bool). cond t (count_of b) 0) (block_refused b r e).0), omega arith)

-- one block more
pub records_on : (c : List ℕ) (k : ℕ) {b : List ℕ} {n r : ℕ} → b ≡ block_at c k → n ≡ records_in c k → r ≡ good_records b → n + r ≡ records_in c (k + 1)
records_on c k e p q = rw add-one (ap₂ ◌+◌ p (q ∙ ap good_records e))
