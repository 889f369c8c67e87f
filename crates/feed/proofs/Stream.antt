-- A block after whole blocks, fed with their count, is one more block of the capture: for who reads a capture block by block and keeps none of it.
-- Assumes nothing.
use Rattle.std.specs.Prelude.{Ok}
use Prim.Native.Nat.{ℕ, ◌+◌, ◌*◌, ◌^◌, ◌<◌, ◌≤◌}
use mathlib.Core.Path.{◌≡◌, sym, ap, ap₂, ◌∙◌}
use mathlib.Core.Bool.{cond}
use mathlib.Core.List.{List, ◌++◌}
use native.Mathlib.Nat.{zero-add}
use native.Mathlib.Omega.{arith}
use lib.ListN.{length}
use lib.Seq.{take_all}
use Rattle.capture.specs.Block.{good}
use Rattle.table.specs.Table.{after}
use Rattle.feed.specs.Feed.{blocks_in, block_at, block_into, blocks_into, bad_in, fed, fed_block}
use Rattle.feed.proofs.Answers.{fed_bad, block_bad}
use Rattle.feed.proofs.Join.{into_both, bad_both}
use Rattle.feed.proofs.Ways.{counted_all, at_most, feed_on}

-- a capture of one block, whole or a part
module _ (b : List ℕ) (some : 1 ≤ length b) (most : length b ≤ 512) where
  one : blocks_in b ≡ 1
  one = omega arith

  itself : block_at b 0 ≡ b
  unfolding block_at
  itself = take_all 512 b most

  into_one : (s : List ℕ) → block_into s b ≡ blocks_into s b (blocks_in b)
  into_one s = ap (block_into s) (sym itself) ∙ ap (blocks_into s b) (sym one)

  bad_one : cond (good b) 0 1 ≡ bad_in b (blocks_in b)
  bad_one = ap (λ (x : List ℕ). cond (good x) 0 1) (sym itself) ∙ sym (zero-add (cond (good (block_at b 0)) 0 1)) ∙ ap (bad_in b) (sym one)

  module _ (c : List ℕ) (a : ℕ) (e : length c ≡ 512 * a) (s : List ℕ) {n m : ℕ} {l k : List ℕ} (p : after (Ok n) l ≡ fed s c) (h : n + 1 < 2 ^ 64) (q : after (Ok m) k ≡ fed_block l b n) where
    counts : m ≡ n + cond (good b) 0 1
    counts = (block_bad l b n m q).1 ∙ sym (counted_all n (good b) (omega (arith, at_most (good b))))

    pub block_then : after (Ok m) k ≡ fed s (c ++ b)
    block_then =
        let f = fed_bad s c n p in
        let g = block_bad l b n m q in
        feed_on s (c ++ b) f.0
        (counts ∙ ap₂ (λ (x y : ℕ). x + y) f.1 bad_one ∙ sym (bad_both c b a e))
        (g.2 ∙ ap (λ (x : List ℕ). block_into x b) f.2 ∙ into_one (blocks_into s c (blocks_in c)) ∙ sym (into_both c b a e s))

    -- a block adds one bad block at most
    pub bad_grows : m ≤ n + 1
    bad_grows = omega (arith, counts, at_most (good b))
