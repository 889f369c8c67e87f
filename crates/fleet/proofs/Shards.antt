-- What an aircraft is told in a run, and what is left of it, is a function of its own calls that are not late and of the latest time: others only age its track, and of ages the last is all that counts.
-- Assumes nothing.
use Rattle.std.specs.Prelude.{Result, Ok, Err, Option, Some, None}
use Prim.Native.Nat.{ℕ, ◌-◌, ◌≤◌}
use native.Mathlib.Omega.{arith}
use mathlib.Core.Bool.{Bool, true, false, cond, not, ◌&&◌, true≢false}
use mathlib.Core.Logic.{inr}
use mathlib.Core.Path.{◌≡◌, refl, ap, ap₂, sym, ◌∙◌}
use mathlib.Core.List.{List, [], ◌∷◌}
use borrow.Author.Tests.{lt-ltb, ltb-true, ltb-false, le-ltb, not-true}
use Rattle.fields.proofs.Bools.{and_left, and_right}
use Rattle.refusals.specs.declared.Refusal.TheVariants.{Late, Full}
use Rattle.layouts.specs.Bodies.{body_me}
use Rattle.messages.specs.declared.Message.{Message}
use Rattle.messages.specs.Message.{decoded}
use Rattle.whereabouts.specs.declared.Site.{Site}
use Rattle.track.specs.declared.Track.{Track}
use Rattle.track.specs.Track.{step_body}
use Rattle.track.specs.Held.{in_date, later_at, found, stepped_from, answered_from}
use Rattle.track.proofs.Rules.{heard_at_its_time}
use Rattle.replay.specs.Alone.{own_in, heard_in, own_after, track_after}
use Rattle.replay.specs.declared.Own.{Own}
use Rattle.replay.proofs.Ways.{with_track}
use Rattle.rules.specs.Form.{Form, East, Lawful}
use Rattle.rules.specs.Rules.{after, set_up, received}
use Rattle.rules.specs.View.{view, Table}
use Rattle.rules.proofs.Laws.{table_after_lem, site_after, clock_after, late_exactly, unchanged, looked_up_lem, set_up_table_lem}
use Rattle.isolation.specs.Runs.{Call, own, Rule, call, NeverFull}
use Rattle.isolation.specs.Alone.{heard_by, own_of, answer_to}
use Rattle.isolation.specs.Logs.{left}
use Rattle.isolation.proofs.Calls.{none_in, mine, own_call}
use Rattle.isolation.proofs.Isolated.{one_call}
use Rattle.isolation.proofs.Replayed.{table_left}
use Rattle.fleet.specs.Sparse.{late, ticked, latest, heeds, timely, Sparse, told, Shards, InOrder, own_calls}
use Rattle.refusals.specs.declared.Refusal.{Refusal}

-- ---- ages

-- of two ages the later is all that counts
later_later : (n m : ℕ) → n ≤ m → (t : Option Track) → later_at m (later_at n t) ≡ later_at m t
later_later n m h None = refl
later_later n m h (Some t) = by_age (in_date n t.heard) refl
  where
    by_age : (b : Bool) → in_date n t.heard ≡ b → later_at m (cond b (Some t) None) ≡ later_at m (Some t)
    by_age true e = refl
    by_age false e = sym (ap (λ (b : Bool). cond b (Some t) None) (le-ltb (m - t.heard) 125000 (omega (arith, ltb-false (n - t.heard) 125000 e))))

-- what a message steps is heard at its time, so in date
stepped_now : (m : Message) (site : Site) (time : ℕ) (t : Option Track) → later_at time (stepped_from m site time t) ≡ stepped_from m site time t
stepped_now m site time None = refl
stepped_now m site time (Some t) =
    let x : Track = step_body t m.body (body_me m.body) site time in
    ap (λ (b : Bool). cond b (Some x) None) (lt-ltb (time - x.heard) 125000 (omega (arith, heard_at_its_time t m.body (body_me m.body) site time)))

-- ---- what its own calls do, if all of them are in time

abbrev answer_in : Option (Result Message Refusal) → Result Message Refusal
answer_in None = Err Late
answer_in (Some d) = d

module _ (key : ℕ) (site : Site) where
  abbrev next : Option Track → Call → Option Track
  next t c = track_after site t c.time (heard_by key c).message

  abbrev steps : Option Track → List Call → Option Track
  steps t [] = t
  steps t (c ∷ cs) = steps (next t c) cs

  abbrev tells : Option Track → List Call → List (Result Message Refusal)
  tells t [] = []
  tells t (c ∷ cs) = answer_in (answer_to false t c.time (heard_by key c).message) ∷ tells (next t c) cs

  -- one call, on a track that may be out of date
  module _ (n : ℕ) (t : Option Track) (c : Call) where
    abbrev msg : Option Message
    msg = own_in key (decoded c.message)

    by_tests : (w b : Bool) → own key c ≡ w → late n c ≡ b
        → cond b (with_track n (later_at n t)) (with_track c.time (track_after site (later_at n t) c.time msg))
        ≡ with_track (cond b n c.time) (later_at (cond b n c.time) (cond (w && not b) (track_after site t c.time msg) t))
    unfolding own
    by_tests true true o e = refl
    by_tests false true o e = refl
    by_tests true false o e =
        let m = mine key (decoded c.message) o in
        let l : later_at c.time (later_at n t) ≡ later_at c.time t = later_later n c.time (ltb-false c.time n e) t in
        rw m.heard (ap (with_track c.time)
        (ap (λ (x : Option Track). stepped_from m.message site c.time (found m.message x)) l ∙ sym (stepped_now m.message site c.time (found m.message (later_at c.time t)))))
    by_tests false false o e = rw (none_in key (decoded c.message) o) (ap (with_track c.time) (later_later n c.time (ltb-false c.time n e) t))

    after_call : own_after site (with_track n (later_at n t)) (heard_by key c) ≡ with_track (ticked n c) (later_at (ticked n c) (cond (heeds key n c) (next t c) t))
    unfolding own_after heard_in
    after_call = by_tests (own key c) (late n c) refl refl

    same_answer : n ≤ c.time → (m : Option Message) → answer_to false (later_at n t) c.time m ≡ answer_to false t c.time m
    same_answer h None = refl
    same_answer h (Some m) = ap (λ (x : Option Track). Some (answered_from m (found m x))) (later_later n c.time h t)

  steps_first : (t : Option Track) (c : Call) (b : Bool) (cs : List Call) → steps t (cond b (c ∷ cs) cs) ≡ steps (cond b (next t c) t) cs
  steps_first t c true cs = refl
  steps_first t c false cs = refl

  tells_first : (t : Option Track) (c : Call) (b : Bool) (cs : List Call) {d : Result Message Refusal} {ds : List (Result Message Refusal)} → (b ≡ true → d ≡ answer_in (answer_to false t c.time (heard_by key c).message))
      → ds ≡ tells (cond b (next t c) t) cs → cond b (d ∷ ds) ds ≡ tells t (cond b (c ∷ cs) cs)
  tells_first t c true cs a e = ap₂ (λ (x : Result Message Refusal) (xs : List (Result Message Refusal)). x ∷ xs) (a refl) e
  tells_first t c false cs a e = e

-- ---- a run

module _ {S : Type 0} (F : Form S) (L : Lawful F) (key : ℕ) where
  -- what it was told, and what is left of it
  record Did (s : S) (cs : List Call) (n : ℕ) (t : Option Track) : Type 0 where
    pub told_is : told (received F) key n s cs ≡ tells key (F.site s) t (timely key n cs)
    pub own_is : own_of F (left (received F) s cs) key ≡ with_track (latest n cs) (later_at (latest n cs) (steps key (F.site s) t (timely key n cs)))

  answer_is : (s : S) (c : Call) → Table F s → (n : ℕ) (t : Option Track) → own_of F s key ≡ with_track n (later_at n t)
      → (own key c ≡ true → (call (received F) s c).answer ≡ Err Full → ⊥) → heeds key n c ≡ true
      → (call (received F) s c).answer ≡ answer_in (answer_to false t c.time (heard_by key c).message)
  unfolding heard_in
  answer_is s c table n t o never h =
      let mine : own key c ≡ true = and_left (own key c) (not (late n c)) h in
      let in_time : late n c ≡ false = not-true (late n c) (and_right (own key c) (not (late n c)) h) in
      let clock : F.clock s ≡ n = ap (λ (x : Own). x.clock) o in
      let track : view F s key ≡ later_at n t = ap (λ (x : Own). x.track) o in
      ap answer_in
      ((own_call F L key s c table mine (never mine)).1
      ∙ ap₂ (λ (b : Bool) (x : Option Track). answer_to b x c.time (heard_by key c).message) (ap (λ (k : ℕ). late k c) clock ∙ in_time) track
      ∙ same_answer key (F.site s) n t c (ltb-false c.time n in_time) (heard_by key c).message)

  run_is : (cs : List Call) (s : S) → Table F s → NeverFull (received F) key s cs → (n : ℕ) (t : Option Track) → own_of F s key ≡ with_track n (later_at n t) → Did s cs n t
  run_is [] s table never n t o = record { told_is = refl; own_is = o }
  run_is (c ∷ cs) s table never n t o =
      let r = call (received F) s c in
      let b : Bool = heeds key n c in
      let x : Option Track = cond b (next key (F.site s) t c) t in
      let more : List Call = timely key (ticked n c) cs in
      let site : F.site r.table ≡ F.site s = site_after F L s c.message c.time in
      let own-next : own_of F r.table key ≡ with_track (ticked n c) (later_at (ticked n c) x) =
      (one_call F L key s c table never.0).0 ∙ ap (λ (y : Own). own_after (F.site s) y (heard_by key c)) o ∙ after_call key (F.site s) n t c in
      let rest = run_is cs r.table (table_after_lem F L s c.message c.time table c.fits) never.1 (ticked n c) x own-next in
      record {
        told_is = tells_first key (F.site s) t c b more (answer_is s c table n t o never.0) (rest.told_is ∙ ap (λ (z : Site). tells key z x more) site);
        own_is =
            rest.own_is
            ∙ ap (λ (y : Option Track). with_track (latest (ticked n c) cs) (later_at (latest (ticked n c) cs) y))
            (ap (λ (z : Site). steps key z x more) site ∙ sym (steps_first key (F.site s) t c b more));
      }

-- ---- two runs, from a set-up each

pub shards : {S T : Type 0} (F : Form S) (G : Form T) → Lawful F → Lawful G → Shards F G (received F) (received G)
shards F G L M key site east s t p q xs ys sparse f g =
    let x = set_up_table_lem F L s site east p in
    let y = set_up_table_lem G M t site east q in
    let a = run_is F L key xs (set_up F s site).table x.table f 0 None (ap₂ with_track x.clock (x.unheld key)) in
    let b = run_is G M key ys (set_up G t site).table y.table g 0 None (ap₂ with_track y.clock (y.unheld key)) in
    let sited = x.sited ∙ sym y.sited in
    let own_same =
    a.own_is
    ∙ ap₂ (λ (n : ℕ) (v : Option Track). with_track n (later_at n v)) sparse.clock (ap₂ (λ (z : Site) (cs : List Call). steps key z None cs) sited sparse.calls)
    ∙ sym b.own_is in
    record {
      answers = a.told_is ∙ ap₂ (λ (z : Site) (cs : List Call). tells key z None cs) sited sparse.calls ∙ sym b.told_is;
      clock = ap (λ (o : Own). o.clock) own_same;
      track = ap (λ (o : Own). o.track) own_same;
      asked = looked_up_lem F _ key (table_left F L key xs _ x.table).size ∙ ap (λ (o : Own). Ok o.track) own_same ∙ sym (looked_up_lem G _ key (table_left G M key ys _ y.table).size);
    }

-- ---- a run without a call of its own holds nothing of it

abbrev pub Others : ℕ → List Call → Type 0
Others key [] = Unit {0}
Others key (c ∷ cs) = (own key c ≡ false) × Others key cs

others_timely : (key n : ℕ) (cs : List Call) → Others key cs → timely key n cs ≡ []
others_timely key n [] h = refl
others_timely key n (c ∷ cs) h = rw h.0 (others_timely key (ticked n c) cs h.1)

others_never : {S : Type 0} (rule : Rule S) (key : ℕ) (s : S) (cs : List Call) → Others key cs → NeverFull rule key s cs
others_never rule key s [] h = tt
others_never rule key s (c ∷ cs) h = (λ o _. true≢false (sym o ∙ h.0), others_never rule key (call rule s c).table cs h.1)

pub unheard : {S : Type 0} (F : Form S) → Lawful F → (key : ℕ) (site : Site) → East site → (s : S) → (set_up F s site).answer ≡ Ok tt → (cs : List Call) → Others key cs
    → view F (left (received F) (set_up F s site).table cs) key ≡ None
unheard F L key site east s p cs h =
    let x = set_up_table_lem F L s site east p in
    let a = run_is F L key cs (set_up F s site).table x.table (others_never (received F) key _ cs h) 0 None (ap₂ with_track x.clock (x.unheld key)) in
    ap (λ (o : Own). o.track) a.own_is ∙ ap (λ (l : List Call). later_at (latest 0 cs) (steps key (F.site (set_up F s site).table) None l)) (others_timely key 0 cs h)

-- ---- where no call is late

module _ (key : ℕ) where
  in_order_timely : (n : ℕ) (cs : List Call) → InOrder n cs → timely key n cs ≡ own_calls key cs
  in_order_timely n [] h = refl
  in_order_timely n (c ∷ cs) h = by_owner (own key c) (in_order_timely c.time cs h.1)
    where
      by_owner : (b : Bool) → timely key c.time cs ≡ own_calls key cs
          → cond (b && not (late n c)) (c ∷ timely key (ticked n c) cs) (timely key (ticked n c) cs) ≡ cond b (c ∷ own_calls key cs) (own_calls key cs)
      by_owner true e = rw (le-ltb c.time n h.0) (ap (λ (l : List Call). c ∷ l) e)
      by_owner false e = rw (le-ltb c.time n h.0) e

  -- of two runs in order of time it is enough that its own calls are the same, and the last time
  pub in_order_lem : {xs ys : List Call} → InOrder 0 xs → InOrder 0 ys → own_calls key xs ≡ own_calls key ys → latest 0 xs ≡ latest 0 ys → Sparse key xs ys
  in_order_lem {xs} {ys} h g e l = record { calls = in_order_timely 0 xs h ∙ e ∙ sym (in_order_timely 0 ys g); clock = l }

-- ---- the run's own clock is the table's, so what is late by it is answered 2, and does nothing

module _ {S : Type 0} (F : Form S) (L : Lawful F) where
  clock_left : (cs : List Call) (s : S) → Table F s → F.clock (left (received F) s cs) ≡ latest (F.clock s) cs
  clock_left [] s table = refl
  clock_left (c ∷ cs) s table =
      clock_left cs (call (received F) s c).table (table_after_lem F L s c.message c.time table c.fits)
      ∙ ap (λ (n : ℕ). latest n cs) (clock_after F L s c.message c.time table.size c.fits c.whole)

  pub clock_from : (site : Site) → East site → (s : S) → (set_up F s site).answer ≡ Ok tt → (cs : List Call) → F.clock (left (received F) (set_up F s site).table cs) ≡ latest 0 cs
  clock_from site east s done cs =
      let x = set_up_table_lem F L s site east done in
      clock_left cs (set_up F s site).table x.table ∙ ap (λ (n : ℕ). latest n cs) x.clock

  pub late_two : (site : Site) → East site → (s : S) → (set_up F s site).answer ≡ Ok tt → (cs : List Call) (c : Call) → late (latest 0 cs) c ≡ true
      → call (received F) (left (received F) (set_up F s site).table cs) c ≡ after (Err Late) (left (received F) (set_up F s site).table cs)
  late_two site east s done cs c e =
      let x = set_up_table_lem F L s site east done in
      let z : S = left (received F) (set_up F s site).table cs in
      let clock : F.clock z ≡ latest 0 cs = clock_from site east s done cs in
      let a : (call (received F) z c).answer ≡ Err Late = (late_exactly F L z c.message c.time).1 (c.whole, ((table_left F L 0 cs _ x.table).size, omega (arith, ltb-true c.time (latest 0 cs) e, clock))) in
      ap₂ after a (unchanged F L z c.message c.time Late (inr (inr refl)) a)
