-- Each public function has one answer: two that satisfy its contract both equal its definition.
-- Assumes nothing.
use Rattle.std.specs.Prelude.{Option}
use Prim.Native.Nat.{ℕ}
use mathlib.Core.Path.{◌≡◌, sym, ap₂, ◌∙◌}
use mathlib.Core.List.{List}
use seplogic.Ra.Ura.{Ura}
use base.Logic.{SProp, ent, sep, id⊢}
use prog.Memory.{Memory}
use prog.Routine.{Routine}
use types.Logic.{Logic}
use contract.Lifetimes.{Lfts}
use contract.Monad.{Fun, fact}
use denote.Triple.Clauses.{AtExit}
use denote.Triple.Entry.{Args, Res}
use Rattle.refusals.specs.Answers.{OneAnswer, OneOutcome}
use Rattle.refusals.proofs.Clauses.{both_say}
use Rattle.capture.specs.declared.Reader.{Reader}
use Rattle.capture.specs.declared.Record.{Record}
use Rattle.capture.proofs.block_of.Kinds as block-of-kinds
use Rattle.capture.proofs.block_of.Reads as Block-of
use Rattle.capture.proofs.record_of.Kinds as record-of-kinds
use Rattle.capture.proofs.record_of.Reads as record_of
use Rattle.capture.proofs.message_of.Kinds as message-of-kinds
use Rattle.capture.proofs.message_of.Reads as message-of
use Rattle.capture.proofs.nth.Kinds as nth-kinds
use Rattle.capture.proofs.nth.Reads as nth
use Rattle.capture.specs.contracts.reader_of as reader-of
use Rattle.capture.specs.contracts.advance as advance

pub block_of_once : OneAnswer 1 block-of-kinds.ps block-of-kinds.r Block-of.Post
block_of_once κs args x y left left' p q = p ∙ sym q

pub record_of_once : OneAnswer 1 record-of-kinds.ps record-of-kinds.r record_of.Post
record_of_once κs args x y left left' p q = p ∙ sym q

-- the bytes; where they lie no contract says
pub message_of_once : OneOutcome 1 message-of-kinds.ps message-of-kinds.r (List ℕ) (λ κs x left. x.now) message-of.Post
message_of_once κs args x y left left' p q = p ∙ sym q

pub nth_once : OneAnswer 1 nth-kinds.ps nth-kinds.r nth.Post
nth_once κs args x y left left' p q = p ∙ sym q

-- ---- the reader's two functions, whose contracts are stated in the program logic: where both results satisfy the contract, they are equal

module _ {M : Type 1} {𝓤 : Ura M} (𝓛 : Logic 𝓤) (mem : Memory → SProp 𝓤) (run : Routine → Fun 𝓤) where
  pub reader_of_once : (κs : Lfts 1) (args : Args reader-of.signature κs) (x y : Res reader-of.signature κs) (left left' : AtExit reader-of.ended κs)
      → ent 𝓤 (sep 𝓤 ((reader-of.clauses 𝓛 mem run κs args).ensures tt x left) ((reader-of.clauses 𝓛 mem run κs args).ensures tt y left')) (fact 𝓤 (x ≡ y))
  reader_of_once κs args x y left left' = both_say 𝓤 _ _ _ _ _ (id⊢ 𝓤 _) (id⊢ 𝓤 _) (λ p q. p ∙ sym q)

  -- the record, and the reader afterwards
  pub advance_once : (κs : Lfts 2) (args : Args advance.signature κs) (x y : Res advance.signature κs) (left left' : AtExit advance.ended κs)
      → ent 𝓤 (sep 𝓤 ((advance.clauses 𝓛 mem run κs args).ensures tt x left) ((advance.clauses 𝓛 mem run κs args).ensures tt y left')) (fact 𝓤 (◌≡◌ {A = Option Record × Reader} (x, left.0.now) (y, left'.0.now)))
  advance_once κs args x y left left' = both_say 𝓤 _ _ _ _ _ (id⊢ 𝓤 _) (id⊢ 𝓤 _) (λ p q. ap₂ (λ (a : Option Record) (b : Reader). (a, b)) (p.0 ∙ sym q.0) (p.1 ∙ sym q.1))
