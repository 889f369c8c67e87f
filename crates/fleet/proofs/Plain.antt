-- The plain way to deal a stream out: each table is handed its own keys' messages that are not late, and before it is read 14 zero bytes at the latest time. Each then holds of every key that goes to it what a single
-- table holds, and of the others nothing.
-- Assumes nothing.
use Rattle.std.specs.Prelude.{Result, Ok, Err, None}
use Prim.Native.Nat.{ℕ}
use mathlib.Core.Bool.{Bool, true, false, cond, not, ◌&&◌}
use mathlib.Core.Path.{◌≡◌, refl, ap, sym, ◌∙◌, subst}
use mathlib.Core.List.{List, [], ◌∷◌, ◌++◌}
use lib.Dec.{eqb}
use borrow.Author.Tests.{eqb-true, eqb-false, ne_eqb}
use Rattle.fields.proofs.Bools.{and_left}
use Rattle.parity.specs.Division.{remainder_from, reduce}
use Rattle.parity.specs.Parity.{remainder}
use Rattle.messages.specs.Message.{decoded, key_of, opened, kind_of}
use Rattle.whereabouts.specs.declared.Site.{Site}
use Rattle.rules.specs.Form.{Form, East, Lawful}
use Rattle.rules.specs.Rules.{set_up, received}
use Rattle.rules.specs.View.{view}
use Rattle.isolation.specs.Runs.{Call, is_of, own, NeverFull}
use Rattle.isolation.specs.Logs.{left}
use Rattle.fleet.specs.Sparse.{late, ticked, latest, Same}
use Rattle.fleet.specs.Fleet.{is_for, call_for, Dealt, handed, least_deal, zero_bytes, Tick}
use Rattle.fleet.proofs.Shards.{Others, unheard, clock_from}
use Rattle.fleet.proofs.Fleet.{fleet, least_deal_lem}
use Rattle.messages.specs.declared.Message.{Message}
use Rattle.refusals.specs.declared.Refusal.{Refusal}

-- ---- the tick

-- it is for no table, and nobody's
for_none : (which : ℕ → ℕ) (i : ℕ) → is_for which i (decoded zero_bytes) ≡ false
unfolding remainder remainder_from reduce opened kind_of
for_none which i = refl

of_nobody : (key : ℕ) → is_of key (decoded zero_bytes) ≡ false
unfolding remainder remainder_from reduce opened kind_of
of_nobody key = refl

module _ {stream : List Call} {t : Call} (tick : Tick stream t) where
  tick_for_none : (which : ℕ → ℕ) (i : ℕ) → call_for which i t ≡ false
  tick_for_none which i = ap (λ (m : List ℕ). is_for which i (decoded m)) tick.zeros ∙ for_none which i

  pub tick_nobody's : (key : ℕ) → own key t ≡ false
  unfolding own
  tick_nobody's key = ap (λ (m : List ℕ). is_of key (decoded m)) tick.zeros ∙ of_nobody key

  tick_deal : (which : ℕ → ℕ) (i : ℕ) → Dealt which i 0 stream (least_deal which i stream t) × (latest 0 (least_deal which i stream t) ≡ latest 0 stream)
  tick_deal which i = least_deal_lem which i t (tick_for_none which i) stream tick.at

-- ---- a key that goes elsewhere

elsewhere : (which : ℕ → ℕ) (i key : ℕ) → (which key ≡ i → ⊥) → (d : Result Message Refusal) → is_for which i d ≡ true → is_of key d ≡ false
elsewhere which i key n (Err r) e = refl
elsewhere which i key n (Ok m) e = ne_eqb (key_of m) key (λ k. n (sym (ap which k) ∙ eqb-true (which (key_of m)) i e))

module _ (which : ℕ → ℕ) (i key : ℕ) (n : which key ≡ i → ⊥) (t : Call) (nobody's : own key t ≡ false) where
  not_own : (c : Call) → call_for which i c ≡ true → own key c ≡ false
  unfolding own
  not_own c e = elsewhere which i key n (decoded c.message) e

  others_handed : (clock : ℕ) (cs : List Call) → Others key (handed which i clock cs ++ t ∷ [])
  others_handed clock [] = (nobody's, tt)
  others_handed clock (c ∷ cs) = by_test (call_for which i c && not (late clock c)) refl (others_handed (ticked clock c) cs)
    where
      by_test : (b : Bool) → call_for which i c && not (late clock c) ≡ b → Others key (handed which i (ticked clock c) cs ++ t ∷ [])
          → Others key (cond b (c ∷ handed which i (ticked clock c) cs) (handed which i (ticked clock c) cs) ++ t ∷ [])
      by_test true e h = (not_own c (and_left (call_for which i c) (not (late clock c)) e), h)
      by_test false e h = h

-- ---- the fleet

module _ {S T : Type 0} (F : Form S) (G : Form T) (L : Lawful F) (M : Lawful G) (which : ℕ → ℕ) (site : Site) (east : East site)
    (s : S) (done : (set_up F s site).answer ≡ Ok tt) (tables : ℕ → T) (all_done : (i : ℕ) → (set_up G (tables i) site).answer ≡ Ok tt) (stream : List Call) (t : Call)
    (tick : Tick stream t) where
  abbrev one : S
  one = (set_up F s site).table

  abbrev of : ℕ → T
  of i = (set_up G (tables i) site).table

  abbrev deal : ℕ → List Call
  deal i = least_deal which i stream t

  pub plain_clock : (i : ℕ) → G.clock (left (received G) (of i) (deal i)) ≡ F.clock (left (received F) one stream)
  plain_clock i = clock_from G M site east (tables i) (all_done i) (deal i) ∙ (tick_deal tick which i).1 ∙ sym (clock_from F L site east s done stream)

  -- of a key that goes elsewhere nothing is held
  pub plain_unheld : (i key : ℕ) → (which key ≡ i → ⊥) → view G (left (received G) (of i) (deal i)) key ≡ None
  plain_unheld i key n = unheard G M key site east (tables i) (all_done i) (deal i) (others_handed which i key n _ (tick_nobody's tick key) 0 stream)

  module _ (key : ℕ) (f : NeverFull (received F) key one stream) (g : NeverFull (received G) key (of (which key)) (deal (which key))) where
    -- what a key is told, and what is held of it, in its own table
    pub plain_same : Same F G (received F) (received G) key one (of (which key)) stream (deal (which key))
    plain_same =
        fleet F G L M which site east s done tables all_done stream deal (λ i. (tick_deal tick which i).0) key (tick_deal tick which (which key)).1 f g

    -- what is held of it in each table
    pub plain_holds : (i : ℕ) → view G (left (received G) (of i) (deal i)) key ≡ cond (eqb (which key) i) (view F (left (received F) one stream) key) None
    plain_holds i = by_test (eqb (which key) i) refl
      where
        by_test : (b : Bool) → eqb (which key) i ≡ b → view G (left (received G) (of i) (deal i)) key ≡ cond b (view F (left (received F) one stream) key) None
        by_test true e = subst (λ (j : ℕ). view G (left (received G) (of j) (deal j)) key ≡ view F (left (received F) one stream) key) (eqb-true (which key) i e) (sym plain_same.track)
        by_test false e = plain_unheld i key (eqb-false (which key) i e)
