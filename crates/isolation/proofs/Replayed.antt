-- The plain method and the table agree: what a run leaves of an aircraft is what it would see alone, call by call, and the records of a log are heard in the same order.
-- Assumes nothing.
use Rattle.std.specs.Prelude.{Result, Ok, ⊤}
use Prim.Native.Nat.{ℕ, zero, suc, ◌+◌, ◌*◌, ◌/◌, ◌%◌, ◌^◌, ◌≤◌}
use native.Mathlib.Omega.{arith}
use mathlib.Core.Bool.{true, false, not, ◌||◌}
use mathlib.Core.Path.{◌≡◌, refl, ap, ap₂, sym, ◌∙◌}
use mathlib.Core.List.{List, [], ◌∷◌, ◌++◌}
use lib.Dec.{leb}
use lib.ListN.{length, take, drop, length-append}
use lib.Seq.{take_at, drop_at, drop-append-add}
use borrow.Author.Tests.{eq-eqb, le-leb, lt-leb}
use Rattle.fields.specs.Bytes.{number, bytes_of}
use Rattle.fields.proofs.Bools.{by_test, both}
use Rattle.fields.proofs.Bytes.{length_bytes, number_bytes}
use Rattle.keys.specs.Keys.{key_for}
use Rattle.whereabouts.specs.declared.Site.{Site}
use Rattle.replay.specs.Alone.{heard_in, own_after}
use Rattle.replay.specs.declared.Own.{Own}
use Rattle.replay.specs.Replay.{is_log, heard_at, unheard, own_at, sited, bad_site}
use Rattle.replay.proofs.Ways.{with_track, all_heard}
use Rattle.rules.specs.Form.{Form, Lawful}
use Rattle.rules.specs.Rules.{After, set_up, received}
use Rattle.rules.specs.View.{Table}
use Rattle.rules.proofs.Laws.{table_after_lem, site_after, looked_up_lem, not_done, set_up_table_lem}
use Rattle.isolation.specs.Runs.{Call, call, NeverFull}
use Rattle.isolation.specs.Alone.{heard_by, heard_of, own_of, left_alone}
use Rattle.isolation.specs.Logs.{record_of, log_of, left, Replays}
use Rattle.isolation.proofs.Isolated.{one_call}
use Rattle.refusals.specs.declared.Refusal.{Refusal}

-- ---- a run leaves what the aircraft would see alone

module _ {S : Type 0} (F : Form S) (L : Lawful F) (key : ℕ) where
  pub table_left : (cs : List Call) (s : S) → Table F s → Table F (left (received F) s cs)
  table_left [] s table = table
  table_left (c ∷ cs) s table = table_left cs (call (received F) s c).table (table_after_lem F L s c.message c.time table c.fits)

  pub final_alone : (cs : List Call) (s : S) → Table F s → NeverFull (received F) key s cs
      → own_of F (left (received F) s cs) key ≡ left_alone (F.site s) (own_of F s key) (heard_of key cs)
  final_alone [] s table never = refl
  final_alone (c ∷ cs) s table never =
      final_alone cs (call (received F) s c).table (table_after_lem F L s c.message c.time table c.fits) never.1
      ∙ ap₂ (λ (site : Site) (o : Own). left_alone site o (heard_of key cs)) (site_after F L s c.message c.time) (one_call F L key s c table never.0).0

-- ---- a log is heard record by record

-- a record has its call's time and message
pub of_22 : (c : Call) → length (record_of c) ≡ 22
of_22 c = omega (arith, length-append (bytes_of 8 c.time) c.message, length_bytes 8 c.time, c.whole)

pub its_time : (c : Call) → number (take 8 (record_of c)) ≡ c.time
its_time c = ap number (take_at (bytes_of 8 c.time) c.message 8 (length_bytes 8 c.time)) ∙ number_bytes 8 c.time c.fits

pub its_message : (c : Call) → drop 8 (record_of c) ≡ c.message
its_message c = drop_at (bytes_of 8 c.time) c.message 8 (length_bytes 8 c.time)

record_heard : (key : ℕ) (c : Call) → heard_at key (record_of c) ≡ heard_by key c
record_heard key c = ap₂ (heard_in key) (its_message c) (its_time c)

pub log_length : (cs : List Call) → length (log_of cs) ≡ 22 * length cs
log_length [] = refl
log_length (c ∷ cs) = length-append (record_of c) (log_of cs) ∙ omega (arith, of_22 c, log_length cs)

module _ (site : Site) (key : ℕ) where
  -- the first record, then those behind it
  heard_first : (r log : List ℕ) (o : Own) → length r ≡ 22 → (n : ℕ) → own_at site key o (r ++ log) (suc n) ≡ own_at site key (own_after site o (heard_at key r)) log n
  heard_first r log o l zero = ap (λ (x : List ℕ). own_after site o (heard_at key x)) (take_at r log 22 l)
  heard_first r log o l (suc n) =
      let on : 22 * suc n ≡ length r + 22 * n = omega arith in
      ap₂ (λ (x : Own) (y : List ℕ). own_after site x (heard_at key (take 22 y))) (heard_first r log o l n) (ap (λ (k : ℕ). drop k (r ++ log)) on ∙ drop-append-add r log (22 * n))

  log_heard : (cs : List Call) (o : Own) → own_at site key o (log_of cs) (length cs) ≡ left_alone site o (heard_of key cs)
  log_heard [] o = refl
  log_heard (c ∷ cs) o =
      heard_first (record_of c) (log_of cs) o (of_22 c) (length cs)
      ∙ ap (λ (x : Own). own_at site key x (log_of cs) (length cs)) (ap (own_after site o) (record_heard key c))
      ∙ log_heard cs (own_after site o (heard_by key c))

-- ---- the answer

-- a site with which a set-up is done is not a bad one
pub done_site : {S : Type 0} (F : Form S) (s : S) (o : Site) → (set_up F s o).answer ≡ Ok tt → bad_site o ≡ false
unfolding set_up
done_site {S} F s o =
    let P : After S (Result ⊤ Refusal) → Type 0 = λ (x : After S (Result ⊤ Refusal)). x.answer ≡ Ok tt → bad_site o ≡ false in
    by_test P (not (F.whole s)) _ _
    (λ _ a. absurd (not_done a))
    (λ _. by_test P (bad_site o) _ _
    (λ _ a. absurd (not_done a))
    (λ e _. e))

pub log_whole : (cs : List Call) → length cs ≤ 2900 → is_log (length (log_of cs)) ≡ true
log_whole cs h =
    ap is_log (log_length cs) ∙ both (eq-eqb (22 * length cs % 22) 0 (omega arith)) (le-leb (22 * length cs / 22) 2900 (omega arith))

pub replays : {S : Type 0} (F : Form S) → Lawful F → Replays F
replays {S} F L kind address site few narrow east s done cs most never =
    let key : ℕ = key_for kind address in
    let fresh = set_up_table_lem F L s site east done in
    let end : S = left (received F) (set_up F s site).table cs in
    let in_range_lem : leb (2 ^ 24) address || false || false ≡ false = rw (lt-leb (2 ^ 24) address few) in
    let records : length cs ≡ length (log_of cs) / 22 = omega (arith, log_length cs) in
    let alone : own_of F end key ≡ own_at (sited site) key unheard (log_of cs) (length (log_of cs) / 22) =
    final_alone F L key cs (set_up F s site).table fresh.table never
    ∙ ap₂ (λ (z : Site) (o : Own). left_alone z o (heard_of key cs)) fresh.sited (ap₂ with_track fresh.clock (fresh.unheld key))
    ∙ sym (log_heard (sited site) key cs unheard)
    ∙ ap (own_at (sited site) key unheard (log_of cs)) records in
    sym
    (all_heard (log_of cs) kind address site (sym (log_whole cs most)) refl (sym narrow) (sym (done_site F s site done)) in_range_lem
    (looked_up_lem F end key (table_left F L key cs (set_up F s site).table fresh.table).size ∙ ap (λ (o : Own). Ok o.track) alone))
