-- Each public function has one answer: whatever two results, with what they leave, both satisfy the clause of its contract, they are one to the caller. Two that do both equal the definition.
-- Assumes nothing.
use Rattle.std.specs.Prelude.{Result, Option, ℕ, ⊤}
use mathlib.Core.Path.{sym, ◌∙◌}
use seplogic.Ra.Ura.{Ura}
use base.Logic.{SProp, id⊢}
use prog.Memory.{Memory}
use prog.Routine.{Routine}
use types.Logic.{Logic}
use contract.Monad.{Fun}
use Rattle.refusals.proofs.Clauses.{both_say}
use Rattle.slice_table.specs.Tracks.{After, after}
use Rattle.slice_table.specs.contracts.set_up as set-up
use Rattle.slice_table.specs.contracts.receive as receive
use Rattle.slice_table.specs.contracts.look_up as look_up
use Rattle.slice_table.specs.contracts.next as next
use Rattle.slice_table.specs.Answers.{OneSeen}
use Rattle.messages.specs.declared.Message.{Message}
use Rattle.refusals.specs.declared.Refusal.{Refusal}
use Rattle.track.specs.declared.Track.{Track}

module _ {M : Type 1} {𝓤 : Ura M} (𝓛 : Logic 𝓤) (mem : Memory → SProp 𝓤) (run : Routine → Fun 𝓤) where
  pub set_up_once : OneSeen 𝓤 set-up.ended (set-up.clauses 𝓛 mem run) (After (Result ⊤ Refusal)) (λ κs x left. after x.answer x.head left.0.now)
  set_up_once κs a g x y left left' = both_say 𝓤 _ _ _ _ _ (id⊢ 𝓤 _) (id⊢ 𝓤 _) (λ p q. p ∙ sym q)

  pub receive_once : OneSeen 𝓤 receive.ended (receive.clauses 𝓛 mem run) (After (Result Message Refusal)) (λ κs x left. after x.answer x.head left.0.now)
  receive_once κs a g x y left left' = both_say 𝓤 _ _ _ _ _ (id⊢ 𝓤 _) (id⊢ 𝓤 _) (λ p q. p ∙ sym q)

  pub look_up_once : OneSeen 𝓤 look_up.ended (look_up.clauses 𝓛 mem run) (Result (Option Track) Refusal) (λ κs x left. x)
  look_up_once κs a g x y left left' = both_say 𝓤 _ _ _ _ _ (id⊢ 𝓤 _) (id⊢ 𝓤 _) (λ p q. p ∙ sym q)

  pub next_once : OneSeen 𝓤 next.ended (next.clauses 𝓛 mem run) (Result (Option ℕ) Refusal) (λ κs x left. x)
  next_once κs a g x y left left' = both_say 𝓤 _ _ _ _ _ (id⊢ 𝓤 _) (id⊢ 𝓤 _) (λ p q. p ∙ sym q)
