-- The promises are not empty, and each premise is needed: our own listing of every capture is one, and beyond the bound it gets 14; two messages to a table of one place or of two, whose numbers are computed in merging.
-- Assumes nothing.
use Rattle.std.specs.Prelude.{Result, Ok, Err}
use Prim.Native.Nat.{ℕ, zero, suc, ◌+◌, ◌*◌, ◌/◌, ◌^◌, ◌<◌}
use mathlib.Core.Bool.{true}
use mathlib.Core.Path.{◌≡◌, refl, ap, sym, ◌∙◌}
use mathlib.Core.List.{List, [], ◌∷◌, ◌++◌}
use native.Mathlib.Omega.{arith}
use lib.ListN.{length, take, drop, replicate, length-append}
use lib.Seq.{take_at, drop-append-add}
use Rattle.refusals.specs.Numbers.{most_records}
use Rattle.fields.specs.Bytes.{bytes_of}
use Rattle.fields.proofs.Bytes.{length_bytes}
use Rattle.parity.specs.Parity.{seal}
use Rattle.capture.specs.Block as capture
use Rattle.capture.specs.Block.{count_of, start_of}
use Rattle.capture.proofs.Sealed.{sealed_good}
use Rattle.entries.specs.Sent.{Sent, sent}
use Rattle.table.specs.Heard.{heard_as}
use Rattle.table.specs.Table.{received}
use Rattle.feed.specs.Feed.{block_at, good_records, records_in}
use Rattle.compare.specs.Compared.{records_of}
use Rattle.isolation.specs.Wrong.{number_in}
use Rattle.rules.specs.Agreement.{Call}
use Rattle.merging.specs.Orders.{offered}
use Rattle.merging.proofs.Examples.{mine, silent, other, later, ready, zeros, Answers, computed, mine_other}
use Rattle.addercoil.specs.Done.{done_number}
use Rattle.addercoil.specs.Tables.{received_sent}
use Rattle.c_promises.specs.Calls.{Receive}
use Rattle.c_promises.proofs.Every.{receive_met}
use Rattle.c_listings.specs.Calls.{Check}
use Rattle.c_listings.specs.Checks.{OurListing}
use Rattle.c_listings.specs.Orders.{Offered, No6, OfOneKey, SameShown}
use Rattle.c_listings.proofs.Checked.{own_yes, fourteen_sixteen}
use Rattle.c_listings.proofs.Ordered.{either_order}
use Rattle.c_listings.proofs.Every.{check_met, our_listing}
use Rattle.messages.specs.declared.Message.{Message}
use Rattle.refusals.specs.declared.Refusal.{Refusal}

-- ---- RULES 14: a check

-- the empty capture has a listing of our own, and it gets yes
pub empty_yes : (text : List ℕ) × (OurListing [] text × ((back : Sent) → Check [] text (7 ∷ []) back → back ≡ sent 0 (0 ∷ [])))
empty_yes =
    let l = our_listing [] (omega arith) in
    (l.0, (l.1, λ back b. own_yes [] l.0 (omega arith) (omega arith) l.1 (7 ∷ []) back refl b))

-- a capture of n blocks, each of which is one of 23 records
module _ (block : List ℕ) (long : length block ≡ 512) (its : good_records block ≡ 23) where
  unfoldable copies : ℕ → List ℕ
  copies zero = []
  copies (suc n) = block ++ copies n

  module _ (c : List ℕ) where
    at_first : block_at (block ++ c) 0 ≡ block
    unfolding block_at
    at_first = take_at block c 512 long

    at_next : (k : ℕ) → block_at (block ++ c) (suc k) ≡ block_at c k
    unfolding block_at
    at_next k = ap (λ (n : ℕ). take 512 (drop n (block ++ c))) (let e : 512 * suc k ≡ length block + 512 * k = omega (arith, long) in e) ∙ ap (take 512) (drop-append-add block c (512 * k))

    records_next : (k : ℕ) → records_in (block ++ c) (suc k) ≡ 23 + records_in c k
    records_next zero = omega (arith, ap good_records at_first, its)
    records_next (suc k) = omega (arith, records_next k, ap good_records (at_next k))

  copies_long : (n : ℕ) → length (copies n) ≡ 512 * n
  unfolding copies
  copies_long zero = refl
  copies_long (suc n) = length-append block (copies n) ∙ omega (arith, long, copies_long n)

  copies_records : (n : ℕ) → records_in (copies n) n ≡ 23 * n
  unfolding copies
  copies_records zero = refl
  copies_records (suc n) = records_next (copies n) n ∙ omega (arith, copies_records n)

  many : (n : ℕ) → records_of (copies n) ≡ 23 * n
  many n = ap (records_in (copies n)) (let e : (length (copies n) + 511) / 512 ≡ n = omega (arith, copies_long n) in e) ∙ copies_records n

-- beyond the bound our own listing gets 14: of 127 such blocks, which have 2,921 records
abbrev AnyCapture : Type 0
AnyCapture = (capture text : List ℕ) → length capture < 2 ^ 64 → OurListing capture text → (back : Sent) → Check capture text (7 ∷ []) back → back ≡ sent 0 (0 ∷ [])

blocks_fail : (block : List ℕ) → length block ≡ 512 → good_records block ≡ 23 → AnyCapture → ⊥
blocks_fail block long its any =
    let capture : List ℕ = copies block long its 127 in
    let size : length capture < 2 ^ 64 = omega (arith, copies_long block long its 127) in
    let l = our_listing capture size in
    let b = check_met capture l.0 (7 ∷ []) in
    let over : most_records < records_of capture = omega (arith, many block long its 127) in
    let z : ◌≡◌ {A = ℕ} 14 0 =
    ap (λ (x : Sent). x.number) (sym ((fourteen_sixteen capture l.0 (7 ∷ []) _ refl b).0.1 over) ∙ any capture l.0 size l.1 _ b) in
    omega arith

-- a block of 23 records of zeros
unfoldable full : List ℕ
full = 23 ∷ replicate 508 0

full_block : (length full ≡ 509) × ((count_of full ≡ 23) × (capture.zeros (drop 509 full) ≡ true))
unfolding full
full_block = (refl, (refl, refl))

sealed_records : (s : List ℕ) → length s ≡ 509 → count_of s ≡ 23 → capture.zeros (drop 509 s) ≡ true → (length (s ++ bytes_of 3 (seal s)) ≡ 512) × (good_records (s ++ bytes_of 3 (seal s)) ≡ 23)
sealed_records [] l c z = absurd (let u : ⊥ = omega arith in u)
sealed_records (x ∷ s) l c z =
    let first : x ≡ 23 = c in
    let start : capture.zeros (drop (start_of (count_of (x ∷ s))) (x ∷ s)) ≡ true = ap (λ (n : ℕ). capture.zeros (drop (start_of n) (x ∷ s))) first ∙ z in (
      length-append (x ∷ s) (bytes_of 3 (seal (x ∷ s))) ∙ omega (arith, l, length_bytes 3 (seal (x ∷ s))),
      rw (sealed_good (x ∷ s) l (omega arith) (omega arith) start) first,
    )

pub bound_needed : AnyCapture → ⊥
bound_needed =
    let p = sealed_records full full_block.0 full_block.1.0 full_block.1.1 in
    blocks_fail (full ++ bytes_of 3 (seal full)) p.0 p.1

-- ---- RULES 9.12: two antennas

abbrev took : List ℕ → List ℕ → ℕ → Sent
took table message time = received_sent (received table message time)

same_number : (d : Result Message Refusal) → done_number (heard_as d) ≡ number_in d
same_number (Ok m) = refl
same_number (Err r) = refl

-- the calls of both orders, and what they return
module _ (n : ℕ) (a b : Call) where
  abbrev first : Sent
  first = took (ready n) a.message a.time

  abbrev second : Sent
  second = took first.array b.message b.time

  first_met : Receive (ready n) a.message a.time first
  first_met = receive_met (ready n) a.message a.time

  second_met : Receive first.array b.message b.time second
  second_met = receive_met first.array b.message b.time

module _ {n : ℕ} {a b : Call} {i j k l : ℕ} (x : Answers received n a b i j k l) where
  returned : ((first n a b).number ≡ i) × ((second n a b).number ≡ j) × ((first n b a).number ≡ k) × ((second n b a).number ≡ l)
  unfolding received_sent
  returned =
      let o = offered received (ready n) a b in
      let o' = offered received (ready n) b a in
      (same_number o.first ∙ x.first, same_number o.second ∙ x.second, same_number o'.first ∙ x.first', same_number o'.second ∙ x.second')

  -- a gets another number second than first
  unlike : (i ≡ l → ⊥) → (first n a b).number ≡ (second n b a).number → ⊥
  unlike ne e = ne (sym returned.0 ∙ e ∙ returned.3)

  none_6 : (i ≡ 6 → ⊥) → (j ≡ 6 → ⊥) → (k ≡ 6 → ⊥) → (l ≡ 6 → ⊥) → No6 (first n a b) (second n a b) × No6 (first n b a) (second n b a)
  none_6 p q r s =
      let t = returned in
      ((λ e. p (sym t.0 ∙ e), λ e. q (sym t.1 ∙ e)), (λ e. r (sym t.2 ∙ e), λ e. s (sym t.3 ∙ e)))

-- two aircraft in two places: all four calls return 0, and C is told the same
pub both_orders : ((second 2 mine other).number ≡ 0) × ((second 2 other mine).number ≡ 0) × SameShown (second 2 mine other).array (second 2 other mine).array
both_orders =
    let x = computed.two_places in
    let n = none_6 x (λ e. omega arith) (λ e. omega arith) (λ e. omega arith) (λ e. omega arith) in
    let e = either_order (ready 2) mine.message other.message 1000 (zeros 2) (omega arith) mine_other _ _ _ _ (record { first = first_met 2 mine other; second = second_met 2 mine other })
    (record { first = first_met 2 other mine; second = second_met 2 other mine }) n.0 n.1 in
    ((returned x).1, (returned x).3, e.2)

-- of two newcomers to one place the second gets 6: the order decides
pub six_needed : ((table a b : List ℕ) (time : ℕ) → (OfOneKey a b → ⊥) → (x y v w : Sent) → Offered table a b time x y → Offered table b a time v w → x.number ≡ w.number) → ⊥
six_needed h =
    unlike computed.one_place (λ e. omega arith)
    (h (ready 1) mine.message other.message 1000 mine_other _ _ _ _ (record { first = first_met 1 mine other; second = second_met 1 mine other })
    (record { first = first_met 1 other mine; second = second_met 1 other mine }))

-- of two messages of one key TYPE 0 gets 12 before the one that starts the track, and 0 behind it
pub keys_needed : ((table a b : List ℕ) (time : ℕ) (x y v w : Sent) → Offered table a b time x y → Offered table b a time v w → No6 x y → No6 v w → x.number ≡ w.number) → ⊥
keys_needed h =
    let n = none_6 computed.one_key (λ e. omega arith) (λ e. omega arith) (λ e. omega arith) (λ e. omega arith) in
    unlike computed.one_key (λ e. omega arith)
    (h (ready 1) silent.message mine.message 1000 _ _ _ _ (record { first = first_met 1 silent mine; second = second_met 1 silent mine })
    (record { first = first_met 1 mine silent; second = second_met 1 mine silent }) n.0 n.1)

-- at two times what comes behind a later message is late
pub times_needed : ((table a b : List ℕ) (t u : ℕ) (x y v w : Sent) → (OfOneKey a b → ⊥) → Receive table a t x → Receive x.array b u y → Receive table b u v → Receive v.array a t w → No6 x y → No6 v w
    → x.number ≡ w.number) → ⊥
times_needed h =
    let n = none_6 computed.two_times (λ e. omega arith) (λ e. omega arith) (λ e. omega arith) (λ e. omega arith) in
    unlike computed.two_times (λ e. omega arith)
    (h (ready 2) mine.message later.message 1000 2000 _ _ _ _ mine_other (first_met 2 mine later) (second_met 2 mine later) (first_met 2 later mine) (second_met 2 later mine) n.0 n.1)
