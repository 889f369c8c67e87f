-- Each way out of `block_of`, over variables: the tests passed on the way decide the definition's.
-- Assumes nothing.
use Rattle.std.specs.Prelude.{Ok, Err}
use Prim.Native.Nat.{ℕ, ◌<◌, ◌≤◌}
use mathlib.Core.Path.{◌≡◌}
use mathlib.Core.Bool.{Bool, true, false, ◌&&◌}
use mathlib.Core.List.{List}
use borrow.Author.Tests.{eq-eqb, ne_eqb, le-leb, lt-leb}
use lib.Dec.{eqb}
use lib.ListN.{length}
use Rattle.refusals.specs.declared.Refusal.TheVariants as refusal
use Rattle.parity.specs.Parity.{remainder}
use Rattle.capture.specs.Block.{zeros, part, count_of, start_of, good, block_of}

other_size : (b : List ℕ) → (length b ≡ 512 → ⊥) → good b ≡ false
unfolding good
other_size b h = simp (ne_eqb _ _ h)

pub bad_size : (b : List ℕ) → (length b ≡ 512 → ⊥) → Err refusal.Block ≡ block_of b
bad_size b h = simp (other_size b h)

module _ (b : List ℕ) (n : ℕ) (e : length b ≡ 512) (p : n ≡ count_of b) where
  none : n < 1 → good b ≡ false
  unfolding good
  none h = simp (eq-eqb _ _ e, ← p, lt-leb 1 n h)

  pub bad_none : n < 1 → Err refusal.Block ≡ block_of b
  bad_none h = simp (none h)

  many : 1 ≤ n → 23 < n → good b ≡ false
  unfolding good
  many l h = simp (eq-eqb _ _ e, ← p, le-leb 1 n l, lt-leb n 23 h)

  pub bad_many : 1 ≤ n → 23 < n → Err refusal.Block ≡ block_of b
  bad_many l h = simp (many l h)

  module _ (z : Bool) (r : ℕ) (l : 1 ≤ n) (h : n ≤ 23) (q : z ≡ zeros (part (start_of n) 509 b)) (s : r ≡ remainder b) where
    judged : (t : Bool) → z && eqb r 0 ≡ t → good b ≡ t
    unfolding good
    judged t k = simp (eq-eqb _ _ e, ← p, le-leb 1 n l, le-leb n 23 h, ← q, ← s) k

    pub kept : z && eqb r 0 ≡ true → Ok n ≡ block_of b
    kept k = simp (judged true k, p)

    pub failed : z && eqb r 0 ≡ false → Err refusal.Block ≡ block_of b
    failed k = simp (judged false k)
