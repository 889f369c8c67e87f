-- Demand 3 of any form: what an aircraft sees of a run is what it would see alone, so two alike runs show it the same. Call by call, by the two laws.
-- Assumes nothing.
use Rattle.std.specs.Prelude.{Result, Err, Option, Some, None}
use Prim.Native.Nat.{ℕ}
use mathlib.Core.Bool.{Bool, true, false, cond}
use mathlib.Core.Path.{◌≡◌, refl, ap, ap₂, sym, ◌∙◌}
use mathlib.Core.List.{List, [], ◌∷◌}
use lib.Dec.{ltb}
use Rattle.refusals.specs.declared.Refusal.TheVariants.{Full}
use Rattle.messages.specs.declared.Message.{Message}
use Rattle.messages.specs.Message.{decoded}
use Rattle.whereabouts.specs.declared.Site.{Site}
use Rattle.replay.specs.Alone.{Heard, heard_in, own_after}
use Rattle.replay.specs.declared.Own.{Own}
use Rattle.replay.proofs.Ways.{with_track}
use Rattle.rules.specs.Form.{Form, Lawful}
use Rattle.rules.specs.Rules.{After, set_up, received}
use Rattle.rules.specs.View.{view, Table}
use Rattle.rules.proofs.Laws.{table_after_lem, site_after, set_up_table_lem}
use Rattle.isolation.specs.Runs.{Call, own, Alike, Alike.end, Alike.its, Alike.others, call, NeverFull, Seen, saw, seen, Isolation}
use Rattle.isolation.specs.Alone.{heard_by, heard_of, own_of, answer_to, saw_alone, seen_alone}
use Rattle.isolation.proofs.Calls.{none_in, other_call, own_call}
use Rattle.refusals.specs.declared.Refusal.{Refusal}

-- ---- one call

abbrev shown : Option (Result Message Refusal) → Own → Seen
shown answer o = record { answer = answer; track = o.track }

module _ {S : Type 0} (F : Form S) (L : Lawful F) (key : ℕ) (s : S) (c : Call) (table : Table F s) (never : own key c ≡ true → (call (received F) s c).answer ≡ Err Full → ⊥) where
  abbrev r : After S (Result Message Refusal)
  r = call (received F) s c

  abbrev pub Alone : Type 0
  Alone = (own_of F r.table key ≡ own_after (F.site s) (own_of F s key) (heard_by key c)) × (saw F key c r ≡ saw_alone (F.site s) (own_of F s key) (heard_by key c))

  not_heard : own key c ≡ false → None ≡ answer_to (ltb (heard_by key c).time (F.clock s)) (view F s key) (heard_by key c).time (heard_by key c).message
  unfolding own heard_in
  not_heard o = sym (ap (answer_to (ltb c.time (F.clock s)) (view F s key) c.time) (none_in key (decoded c.message) o))

  heard : own key c ≡ true → Some r.answer ≡ answer_to (ltb (heard_by key c).time (F.clock s)) (view F s key) (heard_by key c).time (heard_by key c).message
  unfolding heard_in
  heard o = (own_call F L key s c table o (never o)).1

  pub one_call : Alone
  one_call = by_owner (own key c) refl
    where
      both : (o : Bool) → own key c ≡ o → own_of F r.table key ≡ own_after (F.site s) (own_of F s key) (heard_by key c)
          → cond o (Some r.answer) None ≡ answer_to (ltb (heard_by key c).time (F.clock s)) (view F s key) (heard_by key c).time (heard_by key c).message → Alone
      both o e p q = (p, ap₂ shown (ap (λ (b : Bool). cond b (Some r.answer) None) e ∙ q) p)

      by_owner : (b : Bool) → own key c ≡ b → Alone
      by_owner true e = both true e (own_call F L key s c table e (never e)).0 (heard e)
      by_owner false e = both false e (other_call F L key s c table e) (not_heard e)

-- ---- a run

-- what it sees is a function of the times and of its own messages alone, as long as 6 was not answered to it
pub run_alone : {S : Type 0} (F : Form S) (L : Lawful F) (key : ℕ) (cs : List Call) (s : S) → Table F s → NeverFull (received F) key s cs
    → seen F (received F) key s cs ≡ seen_alone (F.site s) (own_of F s key) (heard_of key cs)
run_alone F L key [] s table never = refl
run_alone F L key (c ∷ cs) s table never =
    let one = one_call F L key s c table never.0 in
    ap₂ (λ (x : Seen) (xs : List Seen). x ∷ xs) one.1
    (run_alone F L key cs (call (received F) s c).table (table_after_lem F L s c.message c.time table c.fits) never.1
    ∙ ap₂ (λ (site : Site) (o : Own). seen_alone site o (heard_of key cs)) (site_after F L s c.message c.time) one.0)

abbrev heard_as_lem : ℕ → Option Message → Heard
heard_as_lem time m = record { time = time; message = m }

pub same_heard : (key : ℕ) (c d : Call) → own key c ≡ false → own key d ≡ false → c.time ≡ d.time → heard_by key c ≡ heard_by key d
unfolding own heard_in
same_heard key c d o p e = ap₂ heard_as_lem e (none_in key (decoded c.message) o ∙ sym (none_in key (decoded d.message) p))

pub alike_heard : (key : ℕ) {xs ys : List Call} → Alike key xs ys → heard_of key xs ≡ heard_of key ys
alike_heard key end = refl
alike_heard key (its c o a) = ap (λ (hs : List Heard). heard_by key c ∷ hs) (alike_heard key a)
alike_heard key (others c d o p e a) = ap₂ (λ (h : Heard) (hs : List Heard). h ∷ hs) (same_heard key c d o p e) (alike_heard key a)

-- two tables, of one form or of two, that agree on the clock, the site and the aircraft's track
pub isolation_between : {S T : Type 0} (F : Form S) (G : Form T) → Lawful F → Lawful G → (key : ℕ) (xs ys : List Call) → Alike key xs ys → (s : S) (t : T) → Table F s → Table G t
    → F.site s ≡ G.site t → own_of F s key ≡ own_of G t key
    → NeverFull (received F) key s xs → NeverFull (received G) key t ys → seen F (received F) key s xs ≡ seen G (received G) key t ys
isolation_between F G L M key xs ys a s t p q site o f g =
    run_alone F L key xs s p f
    ∙ ap (seen_alone (F.site s) (own_of F s key)) (alike_heard key a)
    ∙ ap₂ (λ (z : Site) (w : Own). seen_alone z w (heard_of key ys)) site o
    ∙ sym (run_alone G M key ys t q g)

-- ---- from a set-up on

pub isolation : {S T : Type 0} (F : Form S) (G : Form T) → Lawful F → Lawful G → Isolation F G (received F) (received G)
isolation F G L M key site east s t p q xs ys a f g =
    let x = set_up_table_lem F L s site east p in
    let y = set_up_table_lem G M t site east q in
    isolation_between F G L M key xs ys a (set_up F s site).table (set_up G t site).table x.table y.table (x.sited ∙ sym y.sited)
    (ap₂ with_track (x.clock ∙ sym y.clock) (x.unheld key ∙ sym (y.unheld key))) f g
