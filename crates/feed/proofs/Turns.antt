-- The two functions agree: a capture's blocks fed in turn, from the count 0, answer and leave what the capture fed as a whole does. By the number of blocks; the table stays
-- whole on the way, and fewer than 2^64 bad blocks do not reach the count's end.
-- Assumes nothing.
use Rattle.std.specs.Prelude.{Result, Ok}
use Prim.Native.Nat.{ℕ, zero, suc, ◌^◌, ◌<◌}
use mathlib.Core.Path.{◌≡◌, refl, sym, ap, ◌∙◌}
use mathlib.Core.Bool.{true}
use mathlib.Core.List.{List}
use native.Mathlib.Omega.{arith}
use lib.ListN.{length}
use Rattle.capture.specs.Block.{good}
use Rattle.memory.specs.Offsets.{whole_places}
use Rattle.table.specs.Table.{After, after}
use Rattle.feed.specs.Feed.{blocks_in, block_at, blocks_into, bad_in, fed, fed_next, in_turn}
use Rattle.feed.proofs.Lengths.{blocks_length}
use Rattle.feed.proofs.Ways.{counted_all, feed_on, feed_block_on}
use Rattle.refusals.specs.declared.Refusal.{Refusal}

module _ (s c : List ℕ) (w : whole_places (length s) ≡ true) where
  still_whole : (k : ℕ) → whole_places (length (blocks_into s c k)) ≡ true
  still_whole k = ap whole_places (blocks_length s c k) ∙ w

  -- the first k blocks
  in_turn_lem : (k : ℕ) → bad_in c k < 2 ^ 64 → after (Ok (bad_in c k)) (blocks_into s c k) ≡ in_turn s c k
  in_turn_lem zero h = refl
  in_turn_lem (suc k) h =
      feed_block_on (blocks_into s c k) (block_at c k) (bad_in c k) (still_whole k) refl (counted_all (bad_in c k) (good (block_at c k)) h) refl
      ∙ ap (λ (x : After (Result ℕ Refusal)). fed_next x.answer x.table (block_at c k)) (in_turn_lem k (omega arith))

  pub in_turn_fed : bad_in c (blocks_in c) < 2 ^ 64 → in_turn s c (blocks_in c) ≡ fed s c
  in_turn_fed h = sym (in_turn_lem (blocks_in c) h) ∙ feed_on s c w refl refl
