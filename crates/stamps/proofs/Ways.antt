-- The ways out of `extend`, of `time_of`, and of a call, each by the tests on its way.
-- Assumes nothing.
use Rattle.std.specs.Prelude.{Result, Ok, Err, ⊤}
use Rattle.std.proofs.Common.{◌≡◌, ℕ, ◌+◌, ◌-◌, ◌^◌, ◌<◌, ◌≤◌, Bool, true, false, cond, not, List, length, sym, refl, ap, ◌∙◌, ap₂, arith, le-ltb, lt-ltb, eq-eqb, ne_eqb, le-leb}
use borrow.Author.Tests.{lt-leb}
use Rattle.refusals.specs.declared.Refusal.{Refusal}
use Rattle.refusals.specs.declared.Refusal.TheVariants.{Length, Late, Places, Overrun}
use Rattle.messages.specs.Message.{decoded}
use Rattle.memory.specs.Offsets.{whole_places}
use Rattle.rules.specs.Form.{Form}
use Rattle.table_bytes.specs.Layout.{clock_of}
use Rattle.table.specs.Bytes.{bytes}
use Rattle.table.specs.Heard as table
use Rattle.table.specs.Table.{After, after, received, clock_in}
use Rattle.table.proofs.Hearing.{received_done, received_refused}
use Rattle.stamps.specs.declared.Stamps.{Stamps}
use Rattle.stamps.specs.declared.Noted.{Noted}
use Rattle.stamps.specs.declared.Stamped.{Stamped}
use Rattle.stamps.specs.Stamps.{last_is, distance, extended, time_of, answered, with_stamp, stamped_by, stamped}
use Rattle.stamps.specs.Heard.{noted, heard}
use Rattle.messages.specs.declared.Message.{Message}

module _ (state : Stamps) (clock stamp : ℕ) where
  module _ (e : not state.started ≡ true) where
    pub first_late : stamp < clock → Err Late ≡ extended state clock stamp
    unfolding extended
    first_late h = rw (e, lt-ltb stamp clock h)

    pub first_taken : clock ≤ stamp → Ok stamp ≡ extended state clock stamp
    unfolding extended
    first_taken h = rw (e, le-ltb stamp clock h)

  module _ (e : not state.started ≡ false) {d : ℕ} (d-is : d ≡ distance state.last stamp) where
    pub too_far : 2147483648 ≤ d → Err Late ≡ extended state clock stamp
    unfolding extended
    too_far h = rw (e, ← d-is, le-leb (2 ^ 31) d h)

    pub overrun : d < 2147483648 → 18446744073709551615 - clock < d → Err Overrun ≡ extended state clock stamp
    unfolding extended
    overrun h g = rw (e, ← d-is, lt-leb (2 ^ 31) d h, le-leb (2 ^ 64) (clock + d) (omega arith))

    pub on_time : d < 2147483648 → d ≤ 18446744073709551615 - clock → clock < 2 ^ 64 → Ok (clock + d) ≡ extended state clock stamp
    unfolding extended
    on_time h g f = rw (e, ← d-is, lt-leb (2 ^ 31) d h, lt-leb (2 ^ 64) (clock + d) (omega arith))

module _ {S : Type 0} (F : Form S) (s : S) (state : Stamps) (m : List ℕ) (stamp : ℕ) where
  pub no_length : (length m ≡ 14 → ⊥) → time_of F s state m stamp ≡ Err Length
  unfolding time_of
  no_length h = rw (ne_eqb (length m) 14 h)

  module _ (l : length m ≡ 14) where
    pub no_places : F.whole s ≡ false → time_of F s state m stamp ≡ Err Places
    unfolding time_of
    no_places w = rw (eq-eqb (length m) 14 l, w)

    pub by_clock : F.whole s ≡ true → time_of F s state m stamp ≡ extended state (F.clock s) stamp
    unfolding time_of
    by_clock w = rw (eq-eqb (length m) 14 l, w)

  -- a call whose time is known
  pub stamped_by_lem : {x : Result ℕ Refusal} → time_of F s state m stamp ≡ x → stamped F s state m stamp ≡ stamped_by F s state m stamp x
  unfolding stamped
  stamped_by_lem e = ap (stamped_by F s state m stamp) e

-- ---- in the lent bytes, whose clock is asked for

module _ (s : List ℕ) (state : Stamps) (m : List ℕ) (stamp : ℕ) where
  module _ (l : length m ≡ 14) {x : Result ℕ Refusal} (x-is : x ≡ clock_in s) where
    pub clock_found : {k : ℕ} {r : Result ℕ Refusal} → x ≡ Ok k → r ≡ extended state k stamp → r ≡ time_of bytes s state m stamp
    unfolding clock_in
    clock_found {k} {r} e p = by_whole (whole_places (length s)) refl (sym x-is ∙ e)
      where
        by_whole : (w : Bool) → whole_places (length s) ≡ w → cond w (Ok (clock_of s)) (Err Places) ≡ Ok k → r ≡ time_of bytes s state m stamp
        by_whole true w h =
            let same : k ≡ clock_of s = cc in
            p ∙ ap (λ (j : ℕ). extended state j stamp) same ∙ sym (by_clock bytes s state m stamp l w)
        by_whole false w h = let z : ◌≡◌ {A = ℕ} 0 1 = cc in let n : ⊥ = omega arith in absurd n

    pub no_clock : {q : Refusal} → x ≡ Err q → Err q ≡ time_of bytes s state m stamp
    unfolding clock_in
    no_clock {q} e = by_whole (whole_places (length s)) refl (sym x-is ∙ e)
      where
        by_whole : (w : Bool) → whole_places (length s) ≡ w → cond w (Ok (clock_of s)) (Err Places) ≡ Err q → Err q ≡ time_of bytes s state m stamp
        by_whole false w h =
            let same : q ≡ Places = cc in
            ap Err same ∙ sym (no_places bytes s state m stamp l w)
        by_whole true w h = let z : ◌≡◌ {A = ℕ} 0 1 = cc in let n : ⊥ = omega arith in absurd n

  module _ {x : Result ℕ Refusal} (x-is : x ≡ time_of bytes s state m stamp) where
    on : {t : ℕ} → x ≡ Ok t → stamped bytes s state m stamp ≡ with_stamp stamp (received s m t)
    on e = stamped_by_lem bytes s state m stamp (sym x-is ∙ e)

    pub heard_on : {t : ℕ} → x ≡ Ok t → {next : Stamps} → next ≡ last_is stamp → {left : List ℕ} {a : Result ⊤ Refusal} {n : Noted} → after a left ≡ table.heard (received s m t) → n ≡ noted a next
        → after n left ≡ heard (stamped bytes s state m stamp)
    heard_on e next_is {left} {a} p n-is =
        ap (λ (y : Noted). after y left) (n-is ∙ ap (noted a) next_is)
        ∙ ap (λ (y : After (Result ⊤ Refusal)). after (noted y.answer (last_is stamp)) y.table) p
        ∙ sym (ap heard (on e))

    pub not_heard : {r : Refusal} → x ≡ Err r → {n : Noted} → n ≡ noted (Err r) state → after n s ≡ heard (stamped bytes s state m stamp)
    not_heard e n-is = ap (λ (y : Noted). after y s) n-is ∙ sym (ap heard (stamped_by_lem bytes s state m stamp (sym x-is ∙ e)))

  -- ---- where it was heard, the answer is the decoder's; a number is the same

  module _ {n : Noted} {left : List ℕ} (h : after n left ≡ heard (stamped bytes s state m stamp)) where
    heard_by_lem : {x : Result ℕ Refusal} → time_of bytes s state m stamp ≡ x → after n left ≡ heard (stamped_by bytes s state m stamp x)
    heard_by_lem e = h ∙ ap heard (stamped_by_lem bytes s state m stamp e)

    -- what the table heard at the stamp's time
    at_table : {t : ℕ} → time_of bytes s state m stamp ≡ Ok t → after n.answer left ≡ table.heard (received s m t)
    at_table e = ap (λ (y : After Noted). after y.answer.answer y.table) (heard_by_lem e)

    state_is : {x : Result ℕ Refusal} → time_of bytes s state m stamp ≡ x → n.state ≡ (stamped_by bytes s state m stamp x).answer.state
    state_is e = ap (λ (y : After Noted). y.answer.state) (heard_by_lem e)

    told_on : {t : ℕ} → time_of bytes s state m stamp ≡ Ok t → {d : Result Message Refusal} → after d left ≡ received s m t → after (answered d n.state) left ≡ stamped bytes s state m stamp
    told_on e {d} p =
        ap (λ (o : Stamps). after (answered d o) left) (state_is e)
        ∙ ap (with_stamp stamp) p
        ∙ sym (stamped_by_lem bytes s state m stamp e)

    pub told_done : n.answer ≡ Ok tt → {d : Result Message Refusal} → d ≡ decoded m → {x : Stamped} → x ≡ answered d n.state → after x left ≡ stamped bytes s state m stamp
    told_done done {d} d-is x-is = ap (λ (y : Stamped). after y left) x-is ∙ by_time (time_of bytes s state m stamp) refl
      where
        by_time : (x : Result ℕ Refusal) → time_of bytes s state m stamp ≡ x → after (answered d n.state) left ≡ stamped bytes s state m stamp
        by_time (Ok t) e = told_on e (received_done s m t (at_table e) done d-is)
        by_time (Err r) e =
            let a : ◌≡◌ {A = Result ⊤ Refusal} (Err r) (Ok tt) = sym (ap (λ (y : After Noted). y.answer.answer) (heard_by_lem e)) ∙ done in
            let z : ◌≡◌ {A = ℕ} 0 1 = cc in
            let w : ⊥ = omega arith in
            absurd w

    pub told_refused : {q : Refusal} → n.answer ≡ Err q → {x : Stamped} → x ≡ answered (Err q) n.state → after x left ≡ stamped bytes s state m stamp
    told_refused {q} refused x-is = ap (λ (y : Stamped). after y left) x-is ∙ by_time (time_of bytes s state m stamp) refl
      where
        by_time : (x : Result ℕ Refusal) → time_of bytes s state m stamp ≡ x → after (answered (Err q) n.state) left ≡ stamped bytes s state m stamp
        by_time (Ok t) e = told_on e (received_refused s m t q (at_table e) refused)
        by_time (Err r) e =
            let a : ◌≡◌ {A = Result ⊤ Refusal} (Err r) (Err q) = sym (ap (λ (y : After Noted). y.answer.answer) (heard_by_lem e)) ∙ refused in
            let same : q ≡ r = cc in
            ap₂ (λ (z : Refusal) (o : Stamps). after (answered (Err z) o) left) same (state_is e)
            ∙ ap (after (answered (Err r) state)) (ap (λ (y : After Noted). y.table) (heard_by_lem e))
            ∙ sym (stamped_by_lem bytes s state m stamp e)
