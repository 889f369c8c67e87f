-- What the contracts promise in the rules' terms: whatever satisfies the clause of a public function says the number that RULES 3.2 gives, or what the lent slice holds. Each is a law of `rules`, at the slice.
-- Assumes nothing.
use Rattle.std.specs.Prelude.{Result, Err, ⊤}
use mathlib.Core.Bool.{cond}
use mathlib.Core.Path.{◌≡◌, ap, sym, ◌∙◌}
use seplogic.Ra.Ura.{Ura}
use base.Logic.{SProp, ent}
use prog.Memory.{Memory}
use prog.Routine.{Routine}
use types.Logic.{Logic}
use contract.Lifetimes.{Lfts}
use contract.Monad.{Fun, fact}
use denote.Triple.Entry.{Args, Res}
use denote.Triple.Clauses.{AtExit}
use Rattle.refusals.specs.declared.Refusal.{Refusal}
use Rattle.messages.specs.Damaged.{Damaged}
use Rattle.messages.specs.Said.{said}
use Rattle.track.specs.Said.{looked_said}
use Rattle.rules.specs.View.{view}
use Rattle.refusals.specs.Said.{number, gives}
use Rattle.rules.specs.Said.{set_up_said, next_said, key_above, earns2, earns7, set_up_table, receive_table}
use Rattle.rules.proofs.Damaged.{else_3, damaged_table}
use Rattle.rules.proofs.Exactly.{says_the_table}
use Rattle.rules.proofs.Says.{set_up_says, look_says, next_says}
use Rattle.rules.proofs.Laws.{set_up_unchanged}
use Rattle.slice_table.specs.Slice.{slice_of, slice}
use Rattle.slice_table.specs.Tracks.{After}
use Rattle.refusals.proofs.Clauses.{so_too}
use Rattle.slice_table.proofs.Lawful.{slice_lawful}
use Rattle.slice_table.specs.contracts.set_up as set-up
use Rattle.slice_table.specs.contracts.receive as receive
use Rattle.slice_table.specs.contracts.look_up as look_up
use Rattle.slice_table.specs.contracts.next as next
use Rattle.slice_table.specs.Answers.{Promised}
use Rattle.messages.specs.declared.Message.{Message}

module _ {M : Type 1} {𝓤 : Ura M} (𝓛 : Logic 𝓤) (mem : Memory → SProp 𝓤) (run : Routine → Fun 𝓤) where
  -- set-up: 7, then 8
  pub set_up_promised : Promised 𝓤 set-up.ended (set-up.clauses 𝓛 mem run) (λ κs a x. set_up_said x.answer ≡ set_up_table slice (slice_of a.1.0 a.0.now) a.1.1.0)
  set_up_promised κs a g x left = so_too 𝓤 _ _ (λ p. ap (λ (y : After (Result ⊤ Refusal)). set_up_said y.answer) p ∙ set_up_says slice (slice_of a.1.0 a.0.now) a.1.1.0)

  -- a set-up that is refused leaves the head and the places as they were
  pub set_up_kept : (κs : Lfts (set-up.ended).signature.lifetimes) (a : Args (set-up.ended).signature κs) (g : (set-up.clauses 𝓛 mem run κs a).ghost) (x : Res (set-up.ended).signature κs) (left : AtExit set-up.ended κs)
      (r : Refusal) → x.answer ≡ Err r → ent 𝓤 ((set-up.clauses 𝓛 mem run κs a).ensures g x left) (fact 𝓤 (slice_of x.head left.0.now ≡ slice_of a.1.0 a.0.now))
  set_up_kept κs a g x left r e =
      so_too 𝓤 _ _ (λ p. ap (λ (y : After (Result ⊤ Refusal)). y.table) p ∙ set_up_unchanged slice (slice_of a.1.0 a.0.now) a.1.1.0 r (sym (ap (λ (y : After (Result ⊤ Refusal)). y.answer) p) ∙ e))

  -- a received message: 1, 7, 2, 3, 4, 5, 6 or 12, or its fields
  pub receive_promised : Promised 𝓤 receive.ended (receive.clauses 𝓛 mem run)
      (λ κs a x. said x.answer ≡ receive_table slice (slice_of a.1.0 a.0.now) a.1.1.0.now a.1.1.1.0)
  receive_promised κs a g x left =
      so_too 𝓤 _ _ (λ p. ap (λ (y : After (Result Message Refusal)). said y.answer) p ∙ says_the_table slice slice_lawful (slice_of a.1.0 a.0.now) a.1.1.0.now a.1.1.1.0)

  -- a damaged message: if it is not refused with 7 or 2, then with 3
  pub receive_damaged : Promised 𝓤 receive.ended (receive.clauses 𝓛 mem run)
      (λ κs a x. Damaged a.1.1.0.now → (said x.answer ≡ number 7 → ⊥) → (said x.answer ≡ number 2 → ⊥) → said x.answer ≡ number 3)
  receive_damaged κs a g x left =
      so_too 𝓤 _ _ (λ p d.
      let s = slice_of a.1.0 a.0.now in
      else_3 (earns7 slice s) (earns2 slice s a.1.1.1.0) (said x.answer)
      (ap (λ (y : After (Result Message Refusal)). said y.answer) p ∙ says_the_table slice slice_lawful s a.1.1.0.now a.1.1.1.0 ∙ damaged_table slice s a.1.1.0.now a.1.1.1.0 d))

  -- what is read: 7, or what the slice holds
  pub look_up_promised : Promised 𝓤 look_up.ended (look_up.clauses 𝓛 mem run)
      (λ κs a x. looked_said x ≡ cond (earns7 slice (slice_of a.1.0 a.0.now)) (number 7) (gives (view slice (slice_of a.1.0 a.0.now) a.1.1.0)))
  look_up_promised κs a g x left = so_too 𝓤 _ _ (λ p. ap looked_said p ∙ look_says slice (slice_of a.1.0 a.0.now) a.1.1.0)

  pub next_promised : Promised 𝓤 next.ended (next.clauses 𝓛 mem run)
      (λ κs a x. next_said x ≡ cond (earns7 slice (slice_of a.1.0 a.0.now)) (number 7) (gives (key_above slice (slice_of a.1.0 a.0.now) a.1.1.0)))
  next_promised κs a g x left = so_too 𝓤 _ _ (λ p. ap next_said p ∙ next_says slice (slice_of a.1.0 a.0.now) a.1.1.0)
