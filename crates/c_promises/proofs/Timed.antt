-- The times are right, of the calls from C: a run is one that was played by the rule, whose answers say by their numbers whether a stamp was accepted. A clock that is the true time tells at which time a message was received.
-- Assumes nothing.
use Rattle.std.specs.Prelude.{Result, Ok, Err, Option, Some, None}
use Prim.Native.Nat.{ℕ}
use mathlib.Core.Bool.{Bool, true, false, cond, not, true≢false}
use mathlib.Core.Path.{◌≡◌, refl, ap, ap₂, sym, ◌∙◌, subst}
use mathlib.Core.List.{List, [], ◌∷◌, map}
use native.Mathlib.Omega.{arith}
use borrow.Author.Tests.{eq-eqb, le-ltb}
use Rattle.entries.specs.Arrays.{filled}
use Rattle.entries.specs.Sent.{Sent, sent, into}
use Rattle.rules.proofs.Laws.{clock_after}
use Rattle.table_bytes.specs.Layout.{clock_of}
use Rattle.table.specs.Bytes.{bytes}
use Rattle.table.specs.Heard.{heard_as}
use Rattle.table.specs.Table.{After, received, clock_in}
use Rattle.table.proofs.Lawful.{bytes_lawful}
use Rattle.stamps.specs.declared.Stamps.{Stamps}
use Rattle.stamps.specs.declared.Stamped.{Stamped}
use Rattle.stamps.specs.Heard.{heard}
use Rattle.stamps.specs.Stamps.{fresh, time_of, with_stamp, stamped_by, stamped}
use Rattle.stamps.specs.Times as times
use Rattle.stamps.specs.Times.{not_accepted, is_accepted, IfElse, Call, stamp_of, Played}
use Rattle.stamps.proofs.Accepted.{Fair, time_fair}
use Rattle.stamps.proofs.Extension as extension
use Rattle.isolation.specs.Stamped.{Kept, beside, by_stamp}
use Rattle.addercoil.specs.Blocks.{Both}
use Rattle.addercoil.specs.Stamps.{state_row, noted_after}
use Rattle.addercoil.specs.Done.{done_number}
use Rattle.addercoil.specs.Tables.{received_sent, clock_said}
use Rattle.c_promises.specs.Calls.{Clock, Receive}
use Rattle.c_promises.specs.Runs.{site_of}
use Rattle.c_promises.specs.Stamps.{RanStamps, RanStamps.stopped, RanStamps.then}
use Rattle.c_promises.specs.Times.{accepted, FirstTrue, NoneFar, ClockIs, Right, TimesRight}
use Rattle.c_promises.proofs.Isolated.{east, receive_is}
use Rattle.c_promises.proofs.Stamped.{Good, next_good, noted, table_noted, state_noted, ready_good, ready_done, ready_table}
use Rattle.messages.specs.declared.Message.{Message}
use Rattle.refusals.specs.declared.Refusal.{Refusal}

-- ---- what addercoil_clock says

pub clock_is : {table out : List ℕ} {back : Sent} → Clock table out back → back ≡ into 1 out (clock_said (clock_in table))
clock_is {table} {out} {back} b =
    ap (sent back.number) (sym b.leaves) ∙ b.meets ∙ ap₂ (λ (s : List ℕ) (l : List ℕ). into 1 l (clock_said (clock_in s))) b.lent b.into

pub clock_says : (table : List ℕ) (time : ℕ) → bytes.whole table ≡ true → clock_of table ≡ time → ClockIs table time
unfolding into clock_in
clock_says table time w e out back h b = clock_is b ∙ rw (eq-eqb _ _ h, w) (ap₂ (λ (n : ℕ) (t : ℕ). sent 0 (filled n (t ∷ []))) h e)

-- ---- a run as the rule plays it, and as C is told of it

abbrev told : After Stamped → Both
told r = noted_after (heard r)

abbrev run_from : Kept (List ℕ) → List Call → List (After Stamped)
run_from k [] = []
run_from k (c ∷ cs) = stamped bytes k.table k.state c.message (stamp_of c.time) ∷ run_from (by_stamp bytes k c.message (stamp_of c.time)).table cs

played : (k : Kept (List ℕ)) (cs : List Call) → Played bytes k.table k.state cs (run_from k cs)
played k [] = tt
played k (c ∷ cs) = (refl, played (by_stamp bytes k c.message (stamp_of c.time)).table cs)

are_told : {s l : List ℕ} {cs : List Call} {xs : List Both} (k : Kept (List ℕ)) → s ≡ k.table → l ≡ state_row k.state → Good k
    → RanStamps (λ (c : Call). c.message) (λ (c : Call). stamp_of c.time) s l cs xs → xs ≡ map told (run_from k cs)
are_told k s-is l-is g stopped = refl
are_told k s-is l-is g (then {c = c} h b more) =
    ap₂ (λ (x : Both) (xs : List Both). x ∷ xs) (noted k s-is l-is g b)
    (are_told (by_stamp bytes k c.message (stamp_of c.time)).table (table_noted k s-is l-is g b) (state_noted k s-is l-is g b) (next_good k c.message (stamp_of c.time) h g) more)

-- ---- the premises, by numbers and by answers

same_accepted : (d : Result Message Refusal) → not (not_accepted (done_number (heard_as d))) ≡ is_accepted d
same_accepted (Ok m) = refl
same_accepted (Err r) = refl

or_else : (A B C : Type 0) (t : Bool) {u : Bool} → t ≡ u → (B → C) → IfElse t A B → IfElse u A C
or_else A B C true e f x = subst (λ (b : Bool). IfElse b A C) e x
or_else A B C false e f x = subst (λ (b : Bool). IfElse b A C) e (f x)

first_true : (cs : List Call) (rs : List (After Stamped)) → FirstTrue cs (map told rs) → times.FirstTrue cs rs
first_true [] rs a = tt
first_true (c ∷ cs) [] a = tt
first_true (c ∷ cs) (r ∷ rs) a = or_else _ _ _ (accepted (told r)) (same_accepted r.answer.answer) (first_true cs rs) a

none_far : (last : Option ℕ) (cs : List Call) (rs : List (After Stamped)) → NoneFar last cs (map told rs) → times.NoneFar last cs rs
none_far last [] rs f = tt
none_far last (c ∷ cs) [] f = tt
none_far last (c ∷ cs) (r ∷ rs) f =
    (f.0, none_far (cond (is_accepted r.answer.answer) (Some c.time) last) cs rs (subst (λ (b : Bool). NoneFar (cond b (Some c.time) last) cs (map told rs)) (same_accepted r.answer.answer) f.1))

-- ---- at which time a message was received

module _ (s m : List ℕ) (state : Stamps) (stamp time : ℕ) where
  abbrev by : Result ℕ Refusal → After Stamped
  by x = stamped_by bytes s state m stamp x

  true_time : (x : Result ℕ Refusal) → Fair bytes s m x → is_accepted (by x).answer.answer ≡ true → clock_of (by x).table ≡ time → by x ≡ with_stamp stamp (received s m time)
  true_time (Ok t) f a k =
      let after : clock_of (received s m t).table ≡ t =
      clock_after bytes bytes_lawful s m t f.1.0 f.1.1.1 f.0 ∙ ap (λ (b : Bool). cond b (clock_of s) t) (le-ltb t (clock_of s) f.1.1.0) in
      ap (λ (u : ℕ). with_stamp stamp (received s m u)) (sym after ∙ k)
  true_time (Err r) f a k = absurd (true≢false (sym a ∙ f))

module _ (k : Kept (List ℕ)) (g : Good k) (c : Call) where
  abbrev after_it : After Stamped
  after_it = stamped bytes k.table k.state c.message (stamp_of c.time)

  module _ (a : is_accepted after_it.answer.answer ≡ true) (t : clock_of after_it.table ≡ c.time) where
    at_true_time : after_it ≡ with_stamp (stamp_of c.time) (received k.table c.message c.time)
    unfolding stamped
    at_true_time =
        true_time k.table c.message k.state (stamp_of c.time) c.time (time_of bytes k.table k.state c.message (stamp_of c.time))
        (time_fair bytes k.table k.state c.message (stamp_of c.time) (omega arith)) a t

    as_received : (back : Sent) → Receive k.table c.message c.time back → back ≡ sent (told after_it).sent.number (told after_it).table
    unfolding received_sent
    as_received back b = receive_is b ∙ sym (ap (λ (r : After Stamped). sent (told r).sent.number (told r).table) at_true_time)

right_told : (k : Kept (List ℕ)) (cs : List Call) → Good k → times.Right bytes cs (run_from k cs) → Right k.table cs (map told (run_from k cs))
right_told k [] g r = tt
right_told k (c ∷ cs) g r =
    let next : Good (by_stamp bytes k c.message (stamp_of c.time)).table = next_good k c.message (stamp_of c.time) (omega arith) g in (
      λ l. (
        same_accepted (after_it k g c).answer.answer ∙ (r.0 l).0,
        clock_says (after_it k g c).table c.time next.whole (r.0 l).1,
        as_received k g c (r.0 l).0 (r.0 l).1,
      ),
      right_told (by_stamp bytes k c.message (stamp_of c.time)).table cs next r.1,
    )

pub times_right : TimesRight
times_right site cs xs run a b f =
    let k : Kept (List ℕ) = beside run.back.array fresh in
    let rs : List (After Stamped) = run_from k cs in
    let e : xs ≡ map told rs = are_told k refl refl (ready_good site run) run.ran in
    subst (Right run.back.array cs) (sym e)
    (right_told k cs (ready_good site run)
    (extension.times_right bytes bytes_lawful run.table (site_of site) (east site) (ready_done site run) cs rs
    (subst (λ (s : List ℕ). Played bytes s fresh cs rs) (ready_table site run) (played k cs)) (first_true cs rs (subst (FirstTrue cs) e a)) b (none_far None cs rs (subst (NoneFar None cs) e f))))
