-- One turn of the reading loop: the block just read, a whole one or a part at the end, is the capture's next.
-- Assumes nothing.
use Rattle.std.specs.Prelude.{Result, Ok, Err, ⊤}
use Prim.Native.Nat.{ℕ, ◌+◌, ◌^◌, ◌<◌, ◌≤◌}
use mathlib.Core.Path.{◌≡◌, refl, ap, ◌∙◌}
use mathlib.Core.Bool.{true}
use mathlib.Core.List.{List, [], ◌++◌}
use native.Mathlib.Omega.{arith}
use lib.ListN.{length, length-append}
use Rattle.refusals.specs.declared.Refusal.{Refusal}
use Rattle.memory.specs.Offsets.{table_size, whole_places}
use Rattle.table_bytes.specs.Layout.{emptied}
use Rattle.rules.specs.Rules as rules
use Rattle.table.specs.Table.{After, after, set_up}
use Rattle.feed.specs.Feed.{fed, fed_block}
use Rattle.feed.proofs.Answers.{block_refused}
use Rattle.feed.proofs.Stream.{block_then, bad_grows}
use Rattle.feed.proofs.Ways.{feed_on}
use Rattle.listing.specs.Code.{SomeFed, WholeFed}

-- 256 places
whole_256 : (s : List ℕ) → length s ≡ table_size 256 → whole_places (length s) ≡ true
unfolding whole_places
whole_256 s e = rw e

pub set_up_empties : (s : List ℕ) {x : Result ⊤ Refusal} {l : List ℕ} → length s ≡ table_size 256 → after x l ≡ set_up s → l ≡ emptied s
unfolding rules.set_up
set_up_empties s e h = ap (λ (y : After (Result ⊤ Refusal)). y.table) h ∙ rw (whole_256 s e)

-- before the first turn
pub none_read : (s : List ℕ) → length s ≡ table_size 256 → WholeFed s 0 s
none_read s e = record { capture = []; blocks = 0; size = refl; leaves = feed_on s [] (whole_256 s e) refl refl }

-- what was fed to the emptied table
pub from_empty : {s e l : List ℕ} {n : ℕ} → s ≡ e → SomeFed s n l → SomeFed e n l
from_empty h w = record { capture = w.capture; leaves = w.leaves ∙ ap (λ (x : List ℕ). fed x w.capture) h }

-- the input ended behind a whole block
pub so_far : {s l : List ℕ} {n : ℕ} → WholeFed s n l → SomeFed s n l
so_far w = record { capture = w.capture; leaves = w.leaves }

module _ {s l k : List ℕ} {n : ℕ} (b : List ℕ) (w : WholeFed s n l) where
  -- a refusal changes nothing
  pub refused_read : (r : Refusal) → after (Err r) k ≡ fed_block l b n → SomeFed s n k
  refused_read r q = record { capture = w.capture; leaves = ap (after (Ok n)) (block_refused l b n r q).2 ∙ w.leaves }

  module _ {m : ℕ} (h : n + 1 < 2 ^ 64) (q : after (Ok m) k ≡ fed_block l b n) where
    pub last_read : 1 ≤ length b → length b ≤ 512 → SomeFed s m k
    last_read some most = record { capture = w.capture ++ b; leaves = block_then b some most w.capture w.blocks w.size s w.leaves h q }

    pub one_more : 1 ≤ length b → length b ≤ 512 → m ≤ n + 1
    one_more some most = bad_grows b some most w.capture w.blocks w.size s w.leaves h q

    pub whole_read : length b ≡ 512 → WholeFed s m k
    whole_read e =
        record {
          capture = w.capture ++ b;
          blocks = w.blocks + 1;
          size = omega (arith, length-append w.capture b, w.size);
          leaves = block_then b (omega arith) (omega arith) w.capture w.blocks w.size s w.leaves h q;
        }
