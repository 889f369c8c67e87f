-- An accepted stamp is one not refused with 1, 7, 2 or 13: what keeps a stamp from being accepted is one of these, and what a message earns at an accepted one is none of them. So the state takes a stamp exactly when the answer says so, and else nothing changes.
-- Assumes nothing.
use Rattle.std.specs.Prelude.{Result, Ok, Err}
use Rattle.std.proofs.Common.{◌≡◌, ℕ, ◌+◌, ◌^◌, ◌<◌, ◌≤◌, Bool, true, false, cond, not, eqb, ltb, leb, List, length, sym, refl, ap, ◌∙◌, inl, inr, ⊎_elim, true≢false, arith, ltb-false, eqb-true, leb-false}
use borrow.Author.Tests.{not-false}
use Rattle.refusals.specs.declared.Refusal.{Refusal}
use Rattle.fields.proofs.Bools.{by_test}
use Rattle.rules.specs.Form.{Form, Lawful}
use Rattle.rules.specs.Rules.{After, after, received}
use Rattle.rules.specs.View.{Early, Later}
use Rattle.rules.proofs.Laws.{refused_leaves, length_exactly, places_exactly, late_exactly}
use Rattle.stamps.specs.declared.Stamps.{Stamps}
use Rattle.stamps.specs.declared.Stamped.{Stamped}
use Rattle.stamps.specs.Stamps.{last_is, distance, extended, time_of, answered, stamped_by, stamped}
use Rattle.stamps.specs.Times.{is_accepted}
use Rattle.messages.specs.declared.Message.{Message}

-- ---- the time of a stamp

-- what is known of a time that a stamp was given, and of a refusal
abbrev pub Fair : {S : Type 0} → Form S → S → List ℕ → Result ℕ Refusal → Type 0
Fair F s m (Ok time) = (length m ≡ 14) × ((F.whole s ≡ true) × ((F.clock s ≤ time) × (time < 2 ^ 64)))
Fair F s m (Err r) = is_accepted (Err r) ≡ false

module _ {S : Type 0} (F : Form S) (s : S) (state : Stamps) (m : List ℕ) (stamp : ℕ) (fits : stamp < 2 ^ 64) where
  abbrev Way : Result ℕ Refusal → Type 0
  Way = Fair F s m

  abbrev d : ℕ
  d = distance state.last stamp

  extended_fair : length m ≡ 14 → F.whole s ≡ true → Way (extended state (F.clock s) stamp)
  unfolding extended
  extended_fair l w =
      by_test Way (not state.started) _ _
      (λ _. by_test Way (ltb stamp (F.clock s)) _ _ (λ _. refl) (λ e. (l, (w, (ltb-false stamp (F.clock s) e, fits)))))
      (λ _. by_test Way (leb (2 ^ 31) d) _ _ (λ _. refl)
      (λ _. by_test Way (leb (2 ^ 64) (F.clock s + d)) _ _ (λ _. refl)
      (λ e. (l, (w, (omega arith, leb-false (2 ^ 64) (F.clock s + d) e))))))

  pub time_fair : Way (time_of F s state m stamp)
  unfolding time_of
  time_fair =
      by_test Way (not (eqb (length m) 14)) _ _ (λ _. refl)
      (λ l. by_test Way (not (F.whole s)) _ _ (λ _. refl)
      (λ w. extended_fair (eqb-true (length m) 14 (not-false _ l)) (not-false _ w)))

-- ---- what a message earns at its time

module _ {S : Type 0} (F : Form S) (L : Lawful F) (s : S) (m : List ℕ) (time : ℕ) (l : length m ≡ 14) (w : F.whole s ≡ true) (h : F.clock s ≤ time) where
  not_early : (r : Refusal) → Early r → (received F s m time).answer ≡ Err r → ⊥
  not_early r (inl e) a = (length_exactly F L s m time).0 (a ∙ ap Err e) l
  not_early r (inr (inl e)) a = let x = (places_exactly F L s m time).0 (a ∙ ap Err e) in true≢false (sym w ∙ x.1)
  not_early r (inr (inr e)) a = let x = (late_exactly F L s m time).0 (a ∙ ap Err e) in omega (arith, x.1.1)

  later_accepted : (r : Refusal) → Later r → is_accepted (Err r) ≡ true
  later_accepted r (inl (inl e)) = ap (λ (q : Refusal). is_accepted (Err q)) e
  later_accepted r (inl (inr (inl e))) = ap (λ (q : Refusal). is_accepted (Err q)) e
  later_accepted r (inl (inr (inr e))) = ap (λ (q : Refusal). is_accepted (Err q)) e
  later_accepted r (inr (inl e)) = ap (λ (q : Refusal). is_accepted (Err q)) e
  later_accepted r (inr (inr e)) = ap (λ (q : Refusal). is_accepted (Err q)) e

  pub received_accepted : is_accepted (received F s m time).answer ≡ true
  received_accepted = by_answer (received F s m time).answer refl
    where
      by_answer : (d : Result Message Refusal) → (received F s m time).answer ≡ d → is_accepted d ≡ true
      by_answer (Ok n) e = refl
      by_answer (Err r) e = ⊎_elim (λ x. absurd (not_early r x.0 e)) (λ x. later_accepted r x.0) (refused_leaves F L s m time r e)

-- ---- so a call's answer says whether its stamp was accepted

module _ {S : Type 0} (F : Form S) (L : Lawful F) (s : S) (state : Stamps) (m : List ℕ) (stamp : ℕ) (fits : stamp < 2 ^ 64) where
  abbrev by : Result ℕ Refusal → After S Stamped
  by x = stamped_by F s state m stamp x

  -- the state is the stamp then, and else what it was
  pub accepted_exactly : (stamped F s state m stamp).answer.state ≡ cond (is_accepted (stamped F s state m stamp).answer.answer) (last_is stamp) state
  unfolding stamped
  accepted_exactly = by_time (time_of F s state m stamp) (time_fair F s state m stamp fits)
    where
      by_time : (x : Result ℕ Refusal) → Fair F s m x → (by x).answer.state ≡ cond (is_accepted (by x).answer.answer) (last_is stamp) state
      by_time (Ok time) f = sym (ap (λ (b : Bool). cond b (last_is stamp) state) (received_accepted F L s m time f.0 f.1.0 f.1.1.0))
      by_time (Err r) f = sym (ap (λ (b : Bool). cond b (last_is stamp) state) f)

  -- 1, 7, 2 and 13 leave the table and the state as they were
  pub not_accepted_leaves : is_accepted (stamped F s state m stamp).answer.answer ≡ false
      → stamped F s state m stamp ≡ after (answered (stamped F s state m stamp).answer.answer state) s
  unfolding stamped
  not_accepted_leaves = by_time (time_of F s state m stamp) (time_fair F s state m stamp fits)
    where
      by_time : (x : Result ℕ Refusal) → Fair F s m x → is_accepted (by x).answer.answer ≡ false → by x ≡ after (answered (by x).answer.answer state) s
      by_time (Ok time) f e = absurd (true≢false (sym (received_accepted F L s m time f.0 f.1.0 f.1.1.0) ∙ e))
      by_time (Err r) f e = refl
