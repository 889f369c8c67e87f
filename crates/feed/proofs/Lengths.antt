-- A table stays as long as it is, whatever is received: so do its bytes when the clock moves, and when a track is stored.
-- Assumes nothing.
use Prim.Native.Nat.{ℕ, zero, suc}
use mathlib.Core.Path.{◌≡◌, refl, ◌∙◌}
use mathlib.Core.List.{List}
use lib.ListN.{length}
use Rattle.fields.proofs.Bools.{by_test}
use Rattle.capture.specs.Block.{count_of, good, time_of, message_of}
use Rattle.rules.proofs.Laws.{received_keeps}
use Rattle.memory.specs.Offsets.{places_in}
use Rattle.table_bytes.specs.Layout.{moved}
use Rattle.table_bytes.proofs.Places.{moved_length, stored_length}
use Rattle.table.specs.Bytes.{bytes}
use Rattle.table.specs.Table.{received}
use Rattle.feed.specs.Feed.{records_into, block_into, block_at, blocks_into}

pub received_length : (s m : List ℕ) (t : ℕ) → length (received s m t).table ≡ length s
received_length s m t =
    received_keeps bytes s m t (λ (l : List ℕ). length l ≡ length s) refl (moved_length s t) (λ i key x. stored_length (moved s t) (places_in (moved s t)) i key x ∙ moved_length s t)

records_length : (s b : List ℕ) (n : ℕ) → length (records_into s b n) ≡ length s
records_length s b zero = refl
records_length s b (suc n) = received_length (records_into s b n) (message_of b n) (time_of b n) ∙ records_length s b n

block_length : (s b : List ℕ) → length (block_into s b) ≡ length s
unfolding block_into
block_length s b = by_test (λ (l : List ℕ). length l ≡ length s) (good b) _ _ (λ h. records_length s b (count_of b)) (λ h. refl)

pub blocks_length : (s c : List ℕ) (k : ℕ) → length (blocks_into s c k) ≡ length s
blocks_length s c zero = refl
blocks_length s c (suc k) = block_length (blocks_into s c k) (block_at c k) ∙ blocks_length s c k
