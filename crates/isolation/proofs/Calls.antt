-- The two laws behind demand 3: a call of another leaves an aircraft's track but for its age, and its own call steps what it finds. Each by what the decoder says of the message.
-- Assumes nothing.
use Rattle.std.specs.Prelude.{Result, Ok, Err, Option, Some, None}
use Prim.Native.Nat.{ℕ, ◌≤◌, ◌<◌}
use mathlib.Core.Bool.{Bool, true, false, cond, true≢false, false≢true}
use mathlib.Core.Logic.{◌⊎◌, ⊎_elim, inr}
use mathlib.Core.Path.{◌≡◌, refl, ap, ap₂, sym, ◌∙◌, subst}
use lib.Dec.{ltb}
use borrow.Author.Tests.{ltb-true, ltb-false, eqb-true, eq-eqb}
use Rattle.refusals.specs.declared.Refusal.{Refusal}
use Rattle.refusals.specs.declared.Refusal.TheVariants.{Full, Late, NoTrack}
use Rattle.messages.specs.declared.Message.{Message}
use Rattle.messages.specs.Message.{decoded, key_of}
use Rattle.track.specs.Held.{later_at, found, stepped_from, answered_from}
use Rattle.replay.specs.Alone.{own_in, heard_in, track_after, own_after}
use Rattle.replay.proofs.Ways.{with_track}
use Rattle.rules.specs.Form.{Form, Lawful}
use Rattle.rules.specs.Rules.{After, delivered, received}
use Rattle.rules.specs.View.{view, Table}
use Rattle.rules.proofs.Ways.{not_refused, received_in_time}
use Rattle.rules.proofs.Laws.{clock_after, late_exactly, unchanged, dropped_by_the_clock, steps_its_track, key_answer}
use Rattle.isolation.specs.Runs.{Call, is_of, own, call}
use Rattle.isolation.specs.Alone.{heard_by, own_of, answer_to}

abbrev key_in : Result Message Refusal → ℕ
key_in (Ok m) = key_of m
key_in (Err r) = 0

-- ---- whose a message is

pub none_in : (key : ℕ) (d : Result Message Refusal) → is_of key d ≡ false → own_in key d ≡ None
none_in key (Err r) o = refl
none_in key (Ok m) o = rw o

-- a message of the aircraft, with its key
pub record Mine (key : ℕ) (d : Result Message Refusal) : Type 0 where
  pub message : Message
  pub is : d ≡ Ok message
  pub keyed : key_of message ≡ key
  pub heard : own_in key d ≡ Some message

pub mine : (key : ℕ) (d : Result Message Refusal) → is_of key d ≡ true → Mine key d
mine key (Err r) o = absurd (false≢true o)
mine key (Ok m) o = record { message = m; is = refl; keyed = eqb-true (key_of m) key o; heard = rw o }

module _ {S : Type 0} (F : Form S) (L : Lawful F) (key : ℕ) (s : S) (c : Call) (table : Table F s) where
  abbrev r : After S (Result Message Refusal)
  r = call (received F) s c

  late : c.time < F.clock s → (r.table ≡ s) × (r.answer ≡ Err Late)
  late h =
      let a : r.answer ≡ Err Late = (late_exactly F L s c.message c.time).1 (c.whole, (table.size, h)) in
      (unchanged F L s c.message c.time Late (inr (inr refl)) a, a)

  clock_is : ltb c.time (F.clock s) ≡ false → F.clock r.table ≡ c.time
  clock_is e = clock_after F L s c.message c.time table.size c.fits c.whole ∙ ap (λ (b : Bool). cond b (F.clock s) c.time) e

  left : ltb c.time (F.clock s) ≡ true → own_of F r.table key ≡ own_of F s key
  left e = ap (λ (x : S). own_of F x key) (late (ltb-true c.time (F.clock s) e)).0

  -- ---- a call of another

  answer_refused : (q : Refusal) → decoded c.message ≡ Err q → F.clock s ≤ c.time → r.answer ≡ Err q
  unfolding delivered
  answer_refused q e h =
      ap (λ (x : After S (Result Message Refusal)). x.answer)
      (received_in_time F s c.message c.time c.whole table.size h ∙ ap (λ (d : Result Message Refusal). delivered F (F.moved s c.time) d c.time) e)

  not_its : (d : Result Message Refusal) → decoded c.message ≡ d → is_of key d ≡ false → F.clock s ≤ c.time → (m : Message) → r.answer ≡ Ok m → key ≡ key_of m → ⊥
  not_its (Err q) e o h m a x = not_refused (sym a ∙ answer_refused q e h)
  not_its (Ok n) e o h m a x =
      ⊎_elim
      (λ (y : r.answer ≡ Ok n). true≢false (sym (eq-eqb (key_of n) key (ap key_in (sym y ∙ a) ∙ sym x)) ∙ o))
      (λ (y : (r.answer ≡ Err Full) ⊎ (r.answer ≡ Err NoTrack)). ⊎_elim (λ z. not_refused (sym a ∙ z)) (λ z. not_refused (sym a ∙ z)) y)
      (key_answer F L s c.message c.time table.size h n e)

  pub other_call : own key c ≡ false → own_of F r.table key ≡ own_after (F.site s) (own_of F s key) (heard_by key c)
  unfolding own own_after heard_in
  other_call o = by_time (ltb c.time (F.clock s)) refl
    where
      by_time : (b : Bool) → ltb c.time (F.clock s) ≡ b
          → own_of F r.table key ≡ cond b (own_of F s key) (with_track c.time (track_after (F.site s) (view F s key) c.time (own_in key (decoded c.message))))
      by_time true e = left e
      by_time false e =
          let h : F.clock s ≤ c.time = ltb-false c.time (F.clock s) e in
          ap₂ with_track (clock_is e)
          (dropped_by_the_clock F L s c.message c.time table c.fits key c.whole h (not_its (decoded c.message) refl o h)
          ∙ sym (ap (track_after (F.site s) (view F s key) c.time) (none_in key (decoded c.message) o)))

  -- ---- its own call

  abbrev answered : Bool → Option (Result Message Refusal)
  answered b = answer_to b (view F s key) c.time (own_in key (decoded c.message))

  pub own_call : own key c ≡ true → (r.answer ≡ Err Full → ⊥)
      → (own_of F r.table key ≡ own_after (F.site s) (own_of F s key) (heard_by key c)) × (Some r.answer ≡ answered (ltb c.time (F.clock s)))
  unfolding own own_after heard_in
  own_call o un = by_time (ltb c.time (F.clock s)) refl
    where
      m : Mine key (decoded c.message)
      m = mine key (decoded c.message) o

      by_time : (b : Bool) → ltb c.time (F.clock s) ≡ b
          → (own_of F r.table key ≡ cond b (own_of F s key) (with_track c.time (track_after (F.site s) (view F s key) c.time (own_in key (decoded c.message)))))
          × (Some r.answer ≡ answered b)
      by_time true e = (left e, ap Some (late (ltb-true c.time (F.clock s) e)).1 ∙ sym (ap (answer_to true (view F s key) c.time) m.heard))
      by_time false e =
          let h : F.clock s ≤ c.time = ltb-false c.time (F.clock s) e in
          let n : Message = m.message in
          let done = subst (λ (k : ℕ). (r.answer ≡ answered_from n (found n (later_at c.time (view F s k))))
          × (view F r.table k ≡ stepped_from n (F.site s) c.time (found n (later_at c.time (view F s k)))))
          m.keyed (steps_its_track F L s c.message c.time table c.fits n m.is h un) in (
            ap₂ with_track (clock_is e) (done.1 ∙ sym (ap (track_after (F.site s) (view F s key) c.time) m.heard)),
            ap Some done.0 ∙ sym (ap (answer_to false (view F s key) c.time) m.heard),
          )
