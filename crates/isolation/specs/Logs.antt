-- RULES 13.3: a run and the log of what it received; and the log in a capture: the records of its good blocks, set end to end.
use Rattle.std.specs.Prelude.{ℕ, zero, suc, ◌*◌, ◌≤◌, ◌<◌, false, cond, ◌≡◌, List, [], ◌∷◌, ◌++◌, length, take, drop, Ok}
use Rattle.refusals.specs.Numbers.{most_records}
use Rattle.fields.specs.Bytes.{bytes_of}
use Rattle.keys.specs.Keys.{addresses, key_for}
use Rattle.keys.specs.declared.Kind.{Kind}
use Rattle.capture.specs.Block.{count_of, good}
use Rattle.whereabouts.specs.declared.Site.{Site}
use Rattle.replay.specs.Replay.{is_wide, replayed}
use Rattle.rules.specs.Form.{Form, East}
use Rattle.rules.specs.Rules.{set_up, received, looked_up}
use Rattle.feed.specs.Feed.{blocks_in, block_at}
use Rattle.isolation.specs.Runs.{Call, Rule, call, NeverFull}

-- ---- a run

-- a call as a record of 22 bytes: its time, high byte first, then its message
abbrev pub record_of : Call → List ℕ
record_of c = bytes_of 8 c.time ++ c.message

-- all calls of a run, one after the other
abbrev pub log_of : List Call → List ℕ
log_of [] = []
log_of (c ∷ cs) = record_of c ++ log_of cs

-- the table that a run leaves
abbrev pub left : {S : Type 0} → Rule S → S → List Call → S
left rule s [] = s
left rule s (c ∷ cs) = left rule (call rule s c).table cs

-- RULES 13.3: its track equals the table's track after the same records from a set-up with the same site, held or absent, if the table never answered 6 for that key
-- Of any form, whatever the table held before; of an address of 24 bits, a kind whose flag and station fit their bits and at most 2,900 records, since others earn 8 or 14
abbrev pub Replays : {S : Type 0} → Form S → Type 0
Replays {S} F =
    (kind : Kind) (address : ℕ) (site : Site) → address < addresses → is_wide kind ≡ false → East site → (s : S) → (set_up F s site).answer ≡ Ok tt
    → (cs : List Call) → length cs ≤ most_records → NeverFull (received F) (key_for kind address) (set_up F s site).table cs
    → replayed (log_of cs) kind address site ≡ looked_up F (left (received F) (set_up F s site).table cs) (key_for kind address)

-- ---- a capture

-- the records of a good block; a bad one is skipped
abbrev pub block_log : List ℕ → List ℕ
block_log b = cond (good b) (take (22 * count_of b) (drop 3 b)) []

-- of the first k blocks, and of all
abbrev pub blocks_log : List ℕ → ℕ → List ℕ
blocks_log c zero = []
blocks_log c (suc k) = blocks_log c k ++ block_log (block_at c k)

abbrev pub capture_log : List ℕ → List ℕ
capture_log c = blocks_log c (blocks_in c)
