-- The extended times are the true ones under the three premises. Until a stamp is accepted the clock is 0 and the state fresh; from then on, by induction over the calls, the clock is the last accepted true time and the state its stamp.
-- Assumes nothing.
use Rattle.std.specs.Prelude.{Ok, Some, None}
use Rattle.std.proofs.Common.{◌≡◌, ℕ, ◌+◌, ◌-◌, ◌%◌, ◌^◌, ◌<◌, ◌≤◌, Bool, true, false, cond, eqb, List, [], ◌∷◌, length, sym, refl, ap, ◌∙◌, subst, le_refl, arith, le-ltb, eqb-true}
use borrow.Author.Tests.{lt-leb, eqb-false}
use Rattle.rules.specs.Form.{Form, Lawful}
use Rattle.rules.specs.Rules.{After, set_up}
use Rattle.rules.proofs.Laws.{received_keeps, clock_after, set_up_table_lem}
use Rattle.stamps.specs.declared.Stamps.{Stamps}
use Rattle.stamps.specs.declared.Stamped.{Stamped}
use Rattle.stamps.specs.Stamps.{fresh, last_is, distance, extended, stamped_by, stamped}
use Rattle.stamps.specs.Times.{is_accepted, IfElse, Call, stamp_of, Played, FirstTrue, NeverBack, NoneFar, Right, TimesRight}
use Rattle.stamps.proofs.Ways.{no_length, by_clock, stamped_by_lem}
use Rattle.stamps.proofs.Accepted.{received_accepted}

-- ---- one stamp

-- around the circle, the distance between two stamps is that between their times
distance_is : (l t : ℕ) → l ≤ t → t < l + 2 ^ 31 → distance (l % 2 ^ 32) (t % 2 ^ 32) ≡ t - l
unfolding distance
distance_is l t h g = omega arith

pub first_is : (clock stamp : ℕ) → clock ≤ stamp → extended fresh clock stamp ≡ Ok stamp
unfolding extended
first_is clock stamp h = rw (le-ltb stamp clock h)

pub next_is : (l t : ℕ) → l ≤ t → t < l + 2 ^ 31 → t < 2 ^ 64 → extended (last_is (stamp_of l)) l (stamp_of t) ≡ Ok t
unfolding extended
next_is l t h g f =
    let a : l + (t - l) ≡ t = omega arith in
    rw (distance_is l t h g, lt-leb (2 ^ 31) (t - l) (omega arith), a, lt-leb (2 ^ 64) t f)

-- ---- one call

module _ {S : Type 0} (F : Form S) (L : Lawful F) (s : S) (w : F.whole s ≡ true) (state : Stamps) (c : Call) where
  abbrev r : After S Stamped
  r = stamped F s state c.message (stamp_of c.time)

  -- its stamp is accepted, at its true time
  pub record Moved (x : After S Stamped) : Type 0 where
    pub accepted : is_accepted x.answer.answer ≡ true
    pub state_is : x.answer.state ≡ last_is (stamp_of c.time)
    pub clock_is : F.clock x.table ≡ c.time
    pub whole : F.whole x.table ≡ true

  moved_at : length c.message ≡ 14 → F.clock s ≤ c.time → Moved (stamped_by F s state c.message (stamp_of c.time) (Ok c.time))
  moved_at l h =
      record {
        accepted = received_accepted F L s c.message c.time l w h;
        state_is = refl;
        clock_is = clock_after F L s c.message c.time w c.fits l ∙ ap (λ (b : Bool). cond b (F.clock s) c.time) (le-ltb c.time (F.clock s) h);
        whole = received_keeps F s c.message c.time (λ (x : S). F.whole x ≡ true) w (L.moved_whole s c.time ∙ w)
            (λ i key x. L.stored_whole (F.moved s c.time) i key x ∙ L.moved_whole s c.time ∙ w);
      }

  pub moves : length c.message ≡ 14 → F.clock s ≤ c.time → extended state (F.clock s) (stamp_of c.time) ≡ Ok c.time → Moved r
  moves l h e =
      subst Moved (sym (stamped_by_lem F s state c.message (stamp_of c.time) (by_clock F s state c.message (stamp_of c.time) l w ∙ e))) (moved_at l h)

  -- it brings a wrong length, and leaves all
  record Left (x : After S Stamped) : Type 0 where
    pub refused : is_accepted x.answer.answer ≡ false
    pub state_is : x.answer.state ≡ state
    pub table_is : x.table ≡ s

  leaves : (length c.message ≡ 14 → ⊥) → Left r
  leaves h =
      subst Left (sym (stamped_by_lem F s state c.message (stamp_of c.time) (no_length F s state c.message (stamp_of c.time) h)))
      (record { refused = refl; state_is = refl; table_is = refl })

-- whether a call brings 14 bytes
module _ {A : Type 0} (c : Call) (yes : length c.message ≡ 14 → A) (no : (length c.message ≡ 14 → ⊥) → A) where
  by_length : A
  by_length = by_test (eqb (length c.message) 14) refl
    where
      by_test : (b : Bool) → eqb (length c.message) 14 ≡ b → A
      by_test true e = yes (eqb-true (length c.message) 14 e)
      by_test false e = no (eqb-false (length c.message) 14 e)

-- ---- a run

module _ {S : Type 0} (F : Form S) (L : Lawful F) where
  -- .. after an accepted stamp of the true time l
  right_on : (cs : List Call) (rs : List (After S Stamped)) (s : S) (state : Stamps) (l before : ℕ) → F.whole s ≡ true → F.clock s ≡ l → state ≡ last_is (stamp_of l) → l ≤ before
      → Played F s state cs rs → NeverBack before cs → NoneFar (Some l) cs rs → Right F cs rs
  right_on [] rs s state l before w k st h p b f = tt
  right_on (c ∷ cs) [] s state l before w k st h p b f = absurd p
  right_on (c ∷ cs) (r ∷ rs) s state l before w k st h p b f =
      by_length c
      (λ e.
      let m : Moved F L s w state c r =
      subst (Moved F L s w state c) (sym p.0)
      (moves F L s w state c e (omega (arith, k, b.0))
      (rw (k, st) (next_is l c.time (omega (arith, b.0)) f.0 c.fits))) in (
        λ _. (m.accepted, m.clock_is),
        right_on cs rs r.table r.answer.state c.time c.time m.whole m.clock_is m.state_is (le_refl c.time) p.1 b.1
            (subst (λ (o : Bool). NoneFar (cond o (Some c.time) (Some l)) cs rs) m.accepted f.1),
      ))
      (λ e.
      let m : Left F L s w state c r = subst (Left F L s w state c) (sym p.0) (leaves F L s w state c e) in (
        λ x. absurd (e x),
        right_on cs rs r.table r.answer.state l c.time (ap F.whole m.table_is ∙ w) (ap F.clock m.table_is ∙ k) (m.state_is ∙ st) (omega (arith, b.0)) p.1 b.1
            (subst (λ (o : Bool). NoneFar (cond o (Some c.time) (Some l)) cs rs) m.refused f.1),
      ))

  -- .. before one is accepted: a stamp is taken as it is, and it is the true time
  module _ (s : S) (w : F.whole s ≡ true) (k : F.clock s ≡ 0) (state : Stamps) (st : state ≡ fresh) (c : Call) (e : length c.message ≡ 14) where
    at_stamp : extended state (F.clock s) (stamp_of c.time) ≡ Ok (stamp_of c.time)
    at_stamp = rw st (first_is (F.clock s) (stamp_of c.time) (omega (arith, k)))

    first_accepted : is_accepted (stamped F s state c.message (stamp_of c.time)).answer.answer ≡ true
    first_accepted =
        ap (λ (x : After S Stamped). is_accepted x.answer.answer)
        (stamped_by_lem F s state c.message (stamp_of c.time) (by_clock F s state c.message (stamp_of c.time) e w ∙ at_stamp))
        ∙ received_accepted F L s c.message (stamp_of c.time) e w (omega (arith, k))

    first_moves : stamp_of c.time ≡ c.time → Moved F L s w state c (stamped F s state c.message (stamp_of c.time))
    first_moves h = moves F L s w state c e (omega (arith, k)) (at_stamp ∙ ap Ok h)

  pub right_from : (cs : List Call) (rs : List (After S Stamped)) (s : S) (state : Stamps) (before : ℕ) → F.whole s ≡ true → F.clock s ≡ 0 → state ≡ fresh
      → Played F s state cs rs → FirstTrue cs rs → NeverBack before cs → NoneFar None cs rs → Right F cs rs
  right_from [] rs s state before w k st p a b f = tt
  right_from (c ∷ cs) [] s state before w k st p a b f = absurd p
  right_from (c ∷ cs) (r ∷ rs) s state before w k st p a b f =
      by_length c
      (λ e.
      let o : is_accepted r.answer.answer ≡ true = ap (λ (x : After S Stamped). is_accepted x.answer.answer) p.0 ∙ first_accepted s w k state st c e in
      let m : Moved F L s w state c r =
      subst (Moved F L s w state c) (sym p.0)
      (first_moves s w k state st c e (subst (λ (o : Bool). IfElse o (stamp_of c.time ≡ c.time) (FirstTrue cs rs)) o a)) in (
        λ _. (m.accepted, m.clock_is),
        right_on cs rs r.table r.answer.state c.time c.time m.whole m.clock_is m.state_is (le_refl c.time) p.1 b.1
            (subst (λ (o : Bool). NoneFar (cond o (Some c.time) None) cs rs) m.accepted f.1),
      ))
      (λ e.
      let m : Left F L s w state c r = subst (Left F L s w state c) (sym p.0) (leaves F L s w state c e) in (
        λ x. absurd (e x),
        right_from cs rs r.table r.answer.state c.time (ap F.whole m.table_is ∙ w) (ap F.clock m.table_is ∙ k) (m.state_is ∙ st) p.1
            (subst (λ (o : Bool). IfElse o (stamp_of c.time ≡ c.time) (FirstTrue cs rs)) m.refused a) b.1
            (subst (λ (o : Bool). NoneFar (cond o (Some c.time) None) cs rs) m.refused f.1),
      ))

-- from a set-up on
pub times_right : {S : Type 0} (F : Form S) → Lawful F → TimesRight F
times_right F L s site east d cs rs p a b f =
    let x = set_up_table_lem F L s site east d in
    right_from F L cs rs (set_up F s site).table fresh 0 x.table.size x.clock refl p a b f
