-- A capture's log: the records of its good blocks, end to end, are those of calls that leave what the capture fed leaves. So a line of a listing can be worked out again from its capture. Record by record, then block by block.
-- Assumes nothing.
use Rattle.std.specs.Prelude.{Result, Ok}
use Prim.Native.Nat.{ℕ, zero, suc, ◌+◌, ◌-◌, ◌*◌, ◌/◌, ◌%◌, ◌^◌, ◌≤◌, ◌<◌}
use native.Mathlib.Omega.{arith}
use mathlib.Core.Bool.{Bool, true, false, cond}
use mathlib.Core.Path.{◌≡◌, refl, ap, ap₂, sym, ◌∙◌}
use mathlib.Core.List.{List, [], ◌∷◌, ◌++◌}
use lib.Dec.{eqb}
use lib.ListN.{length, take, drop, length-drop}
use lib.Seq.{take-add, take-take, drop_at, drop-drop, length-take-le}
use borrow.Author.Tests.{leb-true}
use Rattle.fields.specs.Bytes.{number, Bytes}
use Rattle.fields.proofs.Bools.{and_right}
use Rattle.fields.proofs.Bytes.{bytes_take, bytes_drop}
use Rattle.keys.specs.Keys.{key_for}
use Rattle.keys.specs.declared.Kind.{Kind}
use Rattle.capture.specs.Block.{count_of, start_of, good, time_of, message_of}
use Rattle.capture.proofs.Rules.{good_keeps}
use Rattle.capture.proofs.Records.{good_at, message_at}
use Rattle.whereabouts.specs.declared.Site.{Site}
use Rattle.replay.specs.Replay.{is_log, record_at, is_wide, replayed}
use Rattle.rules.specs.Form.{East}
use Rattle.rules.specs.Rules as rules
use Rattle.rules.proofs.Laws.{set_up_table_lem}
use Rattle.memory.specs.Offsets.{whole_places}
use Rattle.table.specs.Bytes.{bytes}
use Rattle.table.specs.Table.{After, received, looked_up}
use Rattle.table.proofs.Lawful.{bytes_lawful}
use Rattle.feed.specs.Feed.{records_into, block_into, blocks_in, block_at, blocks_into, fed}
use Rattle.feed.proofs.Ways.{skipped, taken, feed_on}
use Rattle.isolation.specs.Runs.{Call, NeverFull}
use Rattle.isolation.specs.Logs.{log_of, left, block_log, blocks_log, capture_log}
use Rattle.isolation.proofs.Logs.{log_append, left_append, same_log, fewer, one_more, call_at, calls_in, calls_log}
use Rattle.isolation.proofs.Replayed.{log_length, replays}
use Rattle.refusals.specs.declared.Refusal.{Refusal}

-- ---- a good block

module _ (b : List ℕ) (h : Bytes b) (g : good b ≡ true) where
  abbrev log : List ℕ
  log = drop 3 b

  abbrev log_bytes : Bytes log
  log_bytes = bytes_drop 3 b h

  room : (n : ℕ) → n ≤ count_of b → 22 * n ≤ length log
  room n l = let k = good_keeps b g in omega (arith, length-drop 3 b, k.size, k.most)

  module _ (n : ℕ) (l : n < count_of b) where
    from_start : drop (22 * n) log ≡ drop (start_of n) b
    from_start = drop-drop (22 * n) 3 b

    -- a record of the log is the block's, its time and its message
    time_is : number (take 8 (record_at log n)) ≡ time_of b n
    time_is =
        let e : start_of n + 8 - start_of n ≡ 8 = omega arith in
        ap number (take-take 8 22 (drop (22 * n) log) (omega arith) ∙ ap (take 8) from_start) ∙ ap (λ (k : ℕ). number (take k (drop (start_of n) b))) (sym e)

    message_is : drop 8 (record_at log n) ≡ message_of b n
    message_is =
        let d : List ℕ = drop (22 * n) log in
        let e : start_of n + 8 + 14 - (start_of n + 8) ≡ 14 = omega arith in
        let eight : length (take 8 d) ≡ 8 = length-take-le 8 d (omega (arith, length-drop (22 * n) log, room (suc n) (omega arith))) in
        ap (drop 8) (take-add 8 14 d)
        ∙ drop_at (take 8 d) (take 14 (drop 8 d)) 8 eight
        ∙ ap (take 14) (ap (drop 8) from_start ∙ drop-drop 8 (start_of n) b)
        ∙ ap (λ (k : ℕ). take k (drop (start_of n + 8) b)) (sym e)
        ∙ message_at b n (time_of b n) (start_of n + 8) (sym (good_at b n g l))

  records_left : (s : List ℕ) (n : ℕ) (l : 22 * n ≤ length log) → n ≤ count_of b → records_into s b n ≡ left received s (calls_in log log_bytes n l)
  unfolding calls_in call_at
  records_left s zero l k = refl
  records_left s (suc n) l k =
      let before : 22 * n ≤ length log = fewer n (length log) l in
      ap₂ (λ (m : List ℕ) (t : ℕ). (received (records_into s b n) m t).table) (sym (message_is n (omega arith))) (sym (time_is n (omega arith)))
      ∙ ap (λ (x : List ℕ). (received x (drop 8 (record_at log n)) (number (take 8 (record_at log n)))).table) (records_left s n before (omega arith))
      ∙ sym (left_append received s (calls_in log log_bytes n before) (call_at log log_bytes n (one_more n (length log) l) ∷ []))

-- ---- any block, and the blocks of a capture

-- calls that have a log, and that leave what is left
abbrev Left : List ℕ → (List ℕ → List ℕ) → Type 0
Left log leaves = (cs : List Call) × ((log_of cs ≡ log) × ((s : List ℕ) → leaves s ≡ left received s cs))

block_left : (b : List ℕ) → Bytes b → Left (block_log b) (λ s. block_into s b)
block_left b h = by_good (good b) refl
  where
    by_good : (t : Bool) → good b ≡ t → Left (cond t (take (22 * count_of b) (drop 3 b)) []) (λ s. block_into s b)
    by_good true g =
        let l : 22 * count_of b ≤ length (drop 3 b) = room b h g (count_of b) (omega arith) in (
          calls_in (drop 3 b) (bytes_drop 3 b h) (count_of b) l,
          (calls_log (drop 3 b) (bytes_drop 3 b h) (count_of b) l, λ s. sym (taken s b g) ∙ records_left b h g s (count_of b) l (omega arith)),
        )
    by_good false g = ([], (refl, λ s. sym (skipped s b g)))

block_bytes : (c : List ℕ) → Bytes c → (k : ℕ) → Bytes (block_at c k)
unfolding block_at
block_bytes c h k = bytes_take 512 (drop (512 * k) c) (bytes_drop (512 * k) c h)

blocks_left : (c : List ℕ) → Bytes c → (k : ℕ) → Left (blocks_log c k) (λ s. blocks_into s c k)
blocks_left c h zero = ([], (refl, λ s. refl))
blocks_left c h (suc k) =
    let x = blocks_left c h k in
    let y = block_left (block_at c k) (block_bytes c h k) in (
      x.0 ++ y.0,
      (
        log_append x.0 y.0 ∙ ap₂ (λ (l m : List ℕ). l ++ m) x.1.0 y.1.0,
        λ s. ap (λ (t : List ℕ). block_into t (block_at c k)) (x.1.1 s) ∙ y.1.1 (left received s x.0) ∙ sym (left_append received s x.0 y.0),
      ),
    )

-- ---- a capture

-- a replay of its log is what the table holds after the capture was fed to it from a set-up. The calls are those that the log is of
pub capture_replayed : (c : List ℕ) → Bytes c → (kind : Kind) (address : ℕ) (site : Site) → address < 2 ^ 24 → is_wide kind ≡ false → East site → (s : List ℕ) → (rules.set_up bytes s site).answer ≡ Ok tt
    → is_log (length (capture_log c)) ≡ true → (cs : List Call) → log_of cs ≡ capture_log c → NeverFull received (key_for kind address) (rules.set_up bytes s site).table cs
    → replayed (capture_log c) kind address site ≡ looked_up (fed (rules.set_up bytes s site).table c).table (key_for kind address)
capture_replayed c h kind address site few narrow east s done whole cs logged never =
    let t : List ℕ = (rules.set_up bytes s site).table in
    let x = blocks_left c h (blocks_in c) in
    let records : length (capture_log c) / 22 ≤ 2900 = leb-true (length (capture_log c) / 22) 2900 (and_right (eqb (length (capture_log c) % 22) 0) _ whole) in
    let most : length cs ≤ 2900 = omega (arith, log_length cs, ap length logged, records) in
    let size : whole_places (length t) ≡ true = (set_up_table_lem bytes bytes_lawful s site east done).table.size in
    let fed-leaves : left received t cs ≡ (fed t c).table =
    same_log received t cs x.0 (logged ∙ sym x.1.0) ∙ sym (x.1.1 t) ∙ ap (λ (x : After (Result ℕ Refusal)). x.table) (feed_on t c size refl refl) in
    ap (λ (l : List ℕ). replayed l kind address site) (sym logged)
    ∙ replays bytes bytes_lawful kind address site few narrow east s done cs most never
    ∙ ap (λ (x : List ℕ). looked_up x (key_for kind address)) fed-leaves
