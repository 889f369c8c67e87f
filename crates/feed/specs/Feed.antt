-- RULES 11.3, 11.4 and 14.8: a capture into a lent table: what its records do to the table, and how many of its blocks are bad.
use Rattle.std.specs.Prelude.{ℕ, zero, suc, ◌+◌, ◌-◌, ◌*◌, ◌/◌, ◌^◌, min, Bool, cond, not, List, length, take, drop, Result, Ok, Err}
use Rattle.refusals.specs.declared.Refusal.TheVariants.{Places}
use Rattle.capture.specs.Block.{count_of, good, time_of, message_of}
use Rattle.memory.specs.Offsets.{whole_places}
use Rattle.table.specs.Table.{After, after, received}
use Rattle.refusals.specs.declared.Refusal.{Refusal}

-- ---- a block

-- its first n records, received one after the other
abbrev pub records_into : List ℕ → List ℕ → ℕ → List ℕ
records_into s b zero = s
records_into s b (suc n) = (received (records_into s b n) (message_of b n) (time_of b n)).table

-- all records of a good block; a bad one is skipped
unfoldable pub block_into : List ℕ → List ℕ → List ℕ
block_into s b = cond (good b) (records_into s b (count_of b)) s

-- ---- a capture

-- blocks of 512 bytes; a part block at the end is one too, and bad by its length
abbrev pub blocks_in : List ℕ → ℕ
blocks_in c = (length c + 511) / 512

-- the block k, counted from 0
unfoldable pub block_at : List ℕ → ℕ → List ℕ
block_at c k = take 512 (drop (512 * k) c)

-- the first k blocks
abbrev pub blocks_into : List ℕ → List ℕ → ℕ → List ℕ
blocks_into s c zero = s
blocks_into s c (suc k) = block_into (blocks_into s c k) (block_at c k)

-- how many of the first k blocks are bad
abbrev pub bad_in : List ℕ → ℕ → ℕ
bad_in c zero = 0
bad_in c (suc k) = bad_in c k + cond (good (block_at c k)) 0 1

-- how many records of a block are received; of a bad one none
abbrev pub good_records : List ℕ → ℕ
good_records b = cond (good b) (count_of b) 0

-- .. of the first k blocks
abbrev pub records_in : List ℕ → ℕ → ℕ
records_in c zero = 0
records_in c (suc k) = records_in c k + good_records (block_at c k)

-- 7 comes before any block's 11
unfoldable pub fed : List ℕ → List ℕ → After (Result ℕ Refusal)
fed s c =
    cond (not (whole_places (length s))) (after (Err Places) s)
    (after (Ok (bad_in c (blocks_in c))) (blocks_into s c (blocks_in c)))

-- ---- a capture that comes block by block

-- the count of bad blocks after a block, good or not; it stops at 2^64 - 1
unfoldable pub counted : ℕ → Bool → ℕ
counted bad good = cond good bad (min (bad + 1) (2 ^ 64 - 1))

-- one block, with the count of bad blocks so far
unfoldable pub fed_block : List ℕ → List ℕ → ℕ → After (Result ℕ Refusal)
fed_block s b bad =
    cond (not (whole_places (length s))) (after (Err Places) s)
    (after (Ok (counted bad (good b))) (block_into s b))

-- the next block, after what the blocks before it answered and left; a refusal stays
abbrev pub fed_next : Result ℕ Refusal → List ℕ → List ℕ → After (Result ℕ Refusal)
fed_next (Ok bad) s b = fed_block s b bad
fed_next (Err r) s b = after (Err r) s

-- the first k blocks of a capture in turn, the count from 0
abbrev pub in_turn : List ℕ → List ℕ → ℕ → After (Result ℕ Refusal)
in_turn s c zero = after (Ok 0) s
in_turn s c (suc k) = fed_next (in_turn s c k).answer (in_turn s c k).table (block_at c k)
