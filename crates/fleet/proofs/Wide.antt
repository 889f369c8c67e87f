-- A fleet with room, held to a single table with room, needs no proviso: each has a place for every key that it hears, so neither ever answers 6.
-- Assumes nothing.
use Rattle.std.specs.Prelude.{Result, Ok, Err, None, ⊤}
use Prim.Native.Nat.{ℕ, ◌≤◌}
use native.Mathlib.Omega.{arith}
use mathlib.Core.Bool.{Bool, true, false, cond, not, ◌&&◌, ◌||◌}
use mathlib.Core.Path.{◌≡◌, refl, ap, sym, ◌∙◌, subst}
use mathlib.Core.List.{List, [], ◌∷◌, ◌++◌}
use lib.Dec.{eqb}
use lib.ListN.{length}
use borrow.Author.Tests.{eqb-true, eqb-false, eq-eqb, ne_eqb}
use Rattle.fields.proofs.Bools.{by_test, and_left}
use Rattle.positions.specs.Positions.{pole_to_pole}
use Rattle.parity.specs.Division.{remainder_from, reduce}
use Rattle.parity.specs.Parity.{remainder}
use Rattle.messages.specs.Message.{decoded, key_of, opened, kind_of}
use Rattle.whereabouts.specs.declared.Site.{Site}
use Rattle.rules.specs.Form.{taken, Form, East, Lawful}
use Rattle.rules.specs.Rules.{After, set_up, received}
use Rattle.rules.specs.View.{view}
use Rattle.rules.proofs.Search.{clash}
use Rattle.rules.proofs.Laws.{not_done}
use Rattle.isolation.specs.Runs.{Call, NeverFull}
use Rattle.isolation.specs.Logs.{left}
use Rattle.fleet.specs.Sparse.{late, ticked, Same}
use Rattle.fleet.specs.Fleet.{is_for, call_for, handed, least_deal, zero_bytes, Tick}
use Rattle.fleet.specs.Wide.{Wide, wide, roomy, RoomySame, RoomyListing}
use Rattle.fleet.specs.Room.{member, is_among, Among, going_to}
use Rattle.fleet.proofs.Together.{fleet_listing}
use Rattle.fleet.proofs.Plain.{plain_same, plain_clock, plain_unheld}
use Rattle.fleet.proofs.Room.{room}
use Rattle.messages.specs.declared.Message.{Message}
use Rattle.refusals.specs.declared.Refusal.{Refusal}

-- ---- the form of any number of places

pub wide_lawful : Lawful wide
wide_lawful =
    record {
      moved_whole = λ s t. refl;
      moved_count = λ s t. refl;
      moved_site = λ s t. refl;
      moved_cell = λ s t i. refl;
      moved_clock = λ s t w f. refl;
      stored_whole = λ s i key x. refl;
      stored_count = λ s i key x. refl;
      stored_site = λ s i key x. refl;
      stored_clock = λ s i key x. refl;
      stored_there = λ s i key x w h k f. ap (λ (b : Bool). cond b (taken key x) (s.cells i)) (eq-eqb i i refl);
      stored_elsewhere = λ s i key x h j g n. ap (λ (b : Bool). cond b (taken key x) (s.cells j)) (ne_eqb j i n);
      emptied_whole = λ s o. refl;
      emptied_count = λ s o. refl;
      emptied_clock = λ s o. refl;
      emptied_site = λ s o w f. refl;
      emptied_cell = λ s o i. refl;
    }

-- a site with which one set-up is done
wide_done : {T : Type 0} (G : Form T) (t : T) (site : Site) (n : ℕ) → (set_up G t site).answer ≡ Ok tt → (set_up wide (roomy n) site).answer ≡ Ok tt
unfolding set_up
wide_done {T} G t site n =
    let P : After T (Result ⊤ Refusal) → Type 0 = λ (r : After T (Result ⊤ Refusal)). r.answer ≡ Ok tt → (set_up wide (roomy n) site).answer ≡ Ok tt in
    by_test P (not (G.whole t)) _ _
    (λ _ a. absurd (not_done a))
    (λ _. by_test P (site.known && not (pole_to_pole site.spot.latitude)) _ _
    (λ _ a. absurd (not_done a))
    (λ e _. rw e))

-- ---- the keys that a table of the fleet hears

going : (which : ℕ → ℕ) (i k : ℕ) → eqb (which k) i ≡ true → (keys : List ℕ) → member k keys ≡ true → member k (going_to which i keys) ≡ true
going which i k e [] h = h
going which i k e (x ∷ xs) h = by_tests (eqb x k) (eqb (which x) i) refl refl h (going which i k e xs)
  where
    by_tests : (b d : Bool) → eqb x k ≡ b → eqb (which x) i ≡ d → b || member k xs ≡ true → (member k xs ≡ true → member k (going_to which i xs) ≡ true)
        → member k (cond d (x ∷ going_to which i xs) (going_to which i xs)) ≡ true
    by_tests true true p q h more = rw p
    by_tests true false p q h more = absurd (clash (ap (λ (y : ℕ). eqb (which y) i) (eqb-true x k p) ∙ e) q)
    by_tests false true p q h more = rw p (more h)
    by_tests false false p q h more = more h

for_among : (which : ℕ → ℕ) (i : ℕ) (keys : List ℕ) (d : Result Message Refusal) → is_for which i d ≡ true → is_among keys d ≡ true → is_among (going_to which i keys) d ≡ true
for_among which i keys (Err r) e h = refl
for_among which i keys (Ok m) e h = going which i (key_of m) e keys h

among_handed : (which : ℕ → ℕ) (i : ℕ) (keys : List ℕ) (t : Call) → is_among (going_to which i keys) (decoded t.message) ≡ true → (clock : ℕ) (cs : List Call) → Among keys cs
    → Among (going_to which i keys) (handed which i clock cs ++ t ∷ [])
among_handed which i keys t e clock [] h = (e, tt)
among_handed which i keys t e clock (c ∷ cs) h = by_cases (call_for which i c && not (late clock c)) refl (among_handed which i keys t e (ticked clock c) cs h.1)
  where
    by_cases : (b : Bool) → call_for which i c && not (late clock c) ≡ b → Among (going_to which i keys) (handed which i (ticked clock c) cs ++ t ∷ [])
        → Among (going_to which i keys) (cond b (c ∷ handed which i (ticked clock c) cs) (handed which i (ticked clock c) cs) ++ t ∷ [])
    by_cases true p more = (for_among which i keys (decoded c.message) (and_left (call_for which i c) (not (late clock c)) p) h.0, more)
    by_cases false p more = more

zeros_among : (keys : List ℕ) → is_among keys (decoded zero_bytes) ≡ true
unfolding remainder remainder_from reduce opened kind_of
zeros_among keys = refl

among_deal : (which : ℕ → ℕ) (i : ℕ) (keys : List ℕ) (stream : List Call) (t : Call) → Tick stream t → Among keys stream → Among (going_to which i keys) (least_deal which i stream t)
among_deal which i keys stream t tick h = among_handed which i keys t (ap (λ (m : List ℕ). is_among (going_to which i keys) (decoded m)) tick.zeros ∙ zeros_among (going_to which i keys)) 0 stream h

-- ---- table i of a fleet, which has a place for every key that goes to it, beside a single table with a place for every key

module _ {T : Type 0} (G : Form T) (M : Lawful G) (which : ℕ → ℕ) (i : ℕ) (site : Site) (east : East site) (table : T) (done : (set_up G table site).answer ≡ Ok tt)
    (stream : List Call) (t : Call) (tick : Tick stream t) (keys : List ℕ) (among : Among keys stream) (places : length (going_to which i keys) ≤ G.count table) where
  abbrev one : Wide
  one = (set_up wide (roomy (length keys)) site).table

  abbrev of : T
  of = (set_up G table site).table

  pub one_done : (set_up wide (roomy (length keys)) site).answer ≡ Ok tt
  one_done = wide_done G table site (length keys) done

  one_room : (key : ℕ) → NeverFull (received wide) key one stream
  one_room key = room wide wide_lawful keys key site east (roomy (length keys)) one_done stream among (omega arith)

  of_room : (key : ℕ) → NeverFull (received G) key of (least_deal which i stream t)
  of_room key = room G M (going_to which i keys) key site east table done (least_deal which i stream t) (among_deal which i keys stream t tick among) places

  pub table_clock : G.clock (left (received G) of (least_deal which i stream t)) ≡ wide.clock (left (received wide) one stream)
  table_clock = plain_clock wide G wide_lawful M which site east (roomy (length keys)) one_done (λ j. table) (λ j. done) stream t tick i

  -- a key that goes to it
  pub table_same : (key : ℕ) → which key ≡ i → Same wide G (received wide) (received G) key one of stream (least_deal which i stream t)
  table_same key e =
      subst (λ (j : ℕ). Same wide G (received wide) (received G) key one of stream (least_deal which j stream t)) e
      (plain_same wide G wide_lawful M which site east (roomy (length keys)) one_done (λ j. table) (λ j. done) stream t tick key (one_room key)
      (subst (λ (j : ℕ). NeverFull (received G) key of (least_deal which j stream t)) (sym e) (of_room key)))

  -- every key
  pub table_holds : (key : ℕ) → view G (left (received G) of (least_deal which i stream t)) key ≡ cond (eqb (which key) i) (view wide (left (received wide) one stream) key) None
  table_holds key = by_cases (eqb (which key) i) refl
    where
      by_cases : (b : Bool) → eqb (which key) i ≡ b → view G (left (received G) of (least_deal which i stream t)) key ≡ cond b (view wide (left (received wide) one stream) key) None
      by_cases true e = sym (table_same key (eqb-true (which key) i e)).track
      by_cases false e =
          plain_unheld wide G wide_lawful M which site east (roomy (length keys)) one_done (λ j. table) (λ j. done) stream t tick i key (eqb-false (which key) i e)

-- ---- a fleet of such tables

pub roomy_same : {T : Type 0} (G : Form T) → Lawful G → RoomySame G
roomy_same G M which site east tables done stream t tick keys among places key =
    table_same G M which (which key) site east (tables (which key)) (done (which key)) stream t tick keys among (places (which key)) key refl

pub roomy_listing : {T : Type 0} (G : Form T) → Lawful G → RoomyListing G
roomy_listing G M which site east tables done stream t tick keys among places n h =
    fleet_listing wide G wide_lawful M which n h site east (roomy (length keys)) (one_done G M which 0 site east (tables 0) (done 0) stream t tick keys among (places 0)) tables done stream t tick
    (one_room G M which 0 site east (tables 0) (done 0) stream t tick keys among (places 0))
    (λ key. of_room G M which (which key) site east (tables (which key)) (done (which key)) stream t tick keys among (places (which key)) key)
