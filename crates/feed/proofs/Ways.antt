-- Each way out of the functions, over variables: the tests passed on the way decide the definition's.
-- Assumes nothing.
use Rattle.std.specs.Prelude.{Result, Ok, Err, ⊤, Some, None}
use Prim.Native.Nat.{ℕ, zero, suc, ◌+◌, ◌-◌, ◌*◌, ◌^◌, ◌<◌, ◌≤◌}
use mathlib.Core.Path.{◌≡◌, refl, sym, ap, ap₂, subst, ◌∙◌}
use mathlib.Core.Bool.{Bool, true, false, cond}
use mathlib.Core.List.{List}
use native.Mathlib.Omega.{arith}
use native.Mathlib.Numerals.{add-one}
use native.Mathlib.Nat.{min-eq_left, min-eq_right}
use borrow.Author.Tests.{ne_eqb}
use lib.ListN.{length, take, drop, length-drop}
use lib.Seq.{take_all}
use Rattle.refusals.specs.declared.Refusal.{Refusal}
use Rattle.refusals.specs.declared.Refusal.TheVariants.{Places}
use Rattle.fields.proofs.Bools.{by_test}
use Rattle.capture.specs.Block.{part, count_of, good, at, block_of, time_of, record_of, message_of}
use Rattle.capture.proofs.Records.{record_at_lem, message_at, message_ended}
use Rattle.capture.proofs.Rules.{block_good, block_refused}
use Rattle.memory.specs.Offsets.{whole_places}
use Rattle.rules.specs.Rules as rules
use Rattle.table.specs.Heard.{heard}
use Rattle.table.specs.Table.{After, after, received, clock_in}
use Rattle.feed.specs.Feed.{records_into, block_into, counted, blocks_in, block_at, blocks_into, bad_in, fed, fed_block}

-- ---- a record

-- where there is one, its message is received at its time
pub record_taken : (s b : List ℕ) (i t a : ℕ) {x : Result ⊤ Refusal} {l : List ℕ} → Some (at t a) ≡ record_of b i → after x l ≡ heard (received s (part a (a + 14) b) t)
    → l ≡ (received s (message_of b i) (time_of b i)).table
record_taken s b i t a e h =
    ap (λ (y : After (Result ⊤ Refusal)). y.table) h
    ∙ ap₂ (λ (m : List ℕ) (u : ℕ). (received s m u).table) (message_at b i t a e) (record_at_lem b i t a (sym e)).1

no_message : (s m : List ℕ) (t : ℕ) → (length m ≡ 14 → ⊥) → s ≡ (received s m t).table
unfolding rules.received
no_message s m t f = rw (ne_eqb (length m) 14 f)

-- where there is none, the message has no bytes, which changes nothing
pub none_taken : (s b : List ℕ) (i : ℕ) → None ≡ record_of b i → s ≡ (received s (message_of b i) (time_of b i)).table
none_taken s b i e =
    let n = ap length (message_ended b i e) in
    no_message s (message_of b i) (time_of b i) (λ h. omega arith)

-- one record more
pub records_on : (s b : List ℕ) (i : ℕ) {l m : List ℕ} → l ≡ records_into s b i → m ≡ (received l (message_of b i) (time_of b i)).table → m ≡ records_into s b (i + 1)
records_on s b i p q = q ∙ rw add-one (ap (λ (x : List ℕ). (received x (message_of b i) (time_of b i)).table) p)

-- ---- a block

module _ (s b : List ℕ) where
  -- a bad block leaves the table as it was
  pub skipped : good b ≡ false → s ≡ block_into s b
  unfolding block_into
  skipped e = rw e

  -- of a good one all records are received, and no other
  pub taken : good b ≡ true → records_into s b (count_of b) ≡ block_into s b
  unfolding block_into
  taken e = rw e

  pub block_skipped : (r : Refusal) → block_of b ≡ Err r → (false ≡ good b) × (s ≡ block_into s b)
  block_skipped r e =
      let p = block_refused b r e in
      (sym p.0, skipped p.0)

  pub block_taken : (n : ℕ) {l : List ℕ} → block_of b ≡ Ok n → l ≡ records_into s b n → (true ≡ good b) × (l ≡ block_into s b)
  block_taken n e h =
      let p = block_good b n e in
      (sym p.0, h ∙ ap (records_into s b) p.1 ∙ taken p.0)

-- ---- the count of bad blocks

pub count_good : (n : ℕ) {t : Bool} → t ≡ true → n ≡ counted n t
unfolding counted
count_good n e = rw e

module _ (n : ℕ) {t : Bool} (e : t ≡ false) where
  pub count_bad : n < 2 ^ 64 - 1 → n + 1 ≡ counted n t
  unfolding counted
  count_bad h = rw e (sym (min-eq_left (omega arith)))

  pub count_most : 2 ^ 64 - 1 ≤ n → n < 2 ^ 64 → n ≡ counted n t
  unfolding counted
  count_most h l = rw e (let k : n ≡ 2 ^ 64 - 1 = omega arith in k ∙ sym (min-eq_right (omega arith)))

-- below its end the count counts
pub counted_all : (n : ℕ) (t : Bool) → n + cond t 0 1 < 2 ^ 64 → n + cond t 0 1 ≡ counted n t
counted_all n true h = let e : n + 0 ≡ n = omega arith in e ∙ count_good n refl
counted_all n false h = count_bad n refl (omega arith)

pub at_most : (t : Bool) → cond t 0 1 ≤ 1
at_most true = omega arith
at_most false = omega arith

-- there are at most as many bad blocks as blocks
bad_most : (c : List ℕ) (k : ℕ) → bad_in c k ≤ k
bad_most c zero = omega arith
bad_most c (suc k) = omega (arith, bad_most c k, at_most (good (block_at c k)))

-- ---- a capture

module _ (c : List ℕ) (k : ℕ) where
  pub block_short : 512 * k < length c → length c - 512 * k < 512 → take (length c - 512 * k) (drop (512 * k) c) ≡ block_at c k
  unfolding block_at
  block_short h l =
      take_all (length c - 512 * k) (drop (512 * k) c) (omega (arith, length-drop (512 * k) c))
      ∙ sym (take_all 512 (drop (512 * k) c) (omega (arith, length-drop (512 * k) c)))

  pub block_whole : (n : ℕ) → n ≡ 512 → take n (drop (512 * k) c) ≡ block_at c k
  unfolding block_at
  block_whole n e = rw e

  -- one block more: what it leaves, and what it counts
  pub blocks_on : (s : List ℕ) {b l m : List ℕ} → b ≡ block_at c k → l ≡ blocks_into s c k → m ≡ block_into l b → m ≡ blocks_into s c (k + 1)
  blocks_on s e p q = q ∙ rw add-one (ap₂ block_into p e)

  pub bad_on : {b : List ℕ} {t : Bool} {n m : ℕ} → k + 1 < 2 ^ 64 → b ≡ block_at c k → t ≡ good b → n ≡ bad_in c k → m ≡ counted n t → m ≡ bad_in c (k + 1)
  bad_on h e g p q =
      q
      ∙ ap₂ counted p (g ∙ ap good e)
      ∙ sym (counted_all (bad_in c k) (good (block_at c k)) (omega (arith, bad_most c k, at_most (good (block_at c k)))))
      ∙ rw add-one

-- ---- the answers

-- what a table's clock tells of its length
abbrev Told : List ℕ → Result ℕ Refusal → Type 0
Told s (Ok t) = whole_places (length s) ≡ true
Told s (Err r) = whole_places (length s) ≡ false

told : (s : List ℕ) → Told s (clock_in s)
unfolding clock_in
told s = by_test (Told s) (whole_places (length s)) _ _ (λ h. h) (λ h. h)

pub whole : (s : List ℕ) (t : ℕ) → clock_in s ≡ Ok t → whole_places (length s) ≡ true
whole s t e = subst (Told s) e (told s)

broken : (s : List ℕ) (r : Refusal) → clock_in s ≡ Err r → whole_places (length s) ≡ false
broken s r e = subst (Told s) e (told s)

module _ (s c : List ℕ) where
  pub feed_size : (r : Refusal) → clock_in s ≡ Err r → after (Err Places) s ≡ fed s c
  unfolding fed
  feed_size r e = rw (broken s r e)

  pub feed_on : whole_places (length s) ≡ true → {n : ℕ} {l : List ℕ} → n ≡ bad_in c (blocks_in c) → l ≡ blocks_into s c (blocks_in c) → after (Ok n) l ≡ fed s c
  unfolding fed
  feed_on w p q = rw (w, p, q)

module _ (s b : List ℕ) (n : ℕ) where
  pub feed_block_size : (r : Refusal) → clock_in s ≡ Err r → after (Err Places) s ≡ fed_block s b n
  unfolding fed_block
  feed_block_size r e = rw (broken s r e)

  pub feed_block_on : whole_places (length s) ≡ true → {t : Bool} {m : ℕ} {l : List ℕ} → t ≡ good b → m ≡ counted n t → l ≡ block_into s b → after (Ok m) l ≡ fed_block s b n
  unfolding fed_block
  feed_block_on w p q h = rw (w, q, p, h)
