-- What the contracts promise in the rules' terms: whatever meets the contract of `block_of` says the count or 11, and whatever meets that of `record_of`, of `nth` or
-- of `advance` says a time and a message, or that the records have ended; a reader from `reader_of` stands at the first. The definitions of specs/Said carry each case of the answer over.
-- Assumes nothing.
use Rattle.std.specs.Prelude.{Ok, Err, Some, None}
use Prim.Native.Nat.{ℕ, ◌+◌}
use mathlib.Core.Path.{◌≡◌, refl, ap, ◌∙◌}
use mathlib.Core.Bool.{Bool, true, false, cond}
use mathlib.Core.List.{List, []}
use native.Mathlib.Omega.{arith}
use seplogic.Ra.Ura.{Ura}
use base.Logic.{SProp, ent}
use prog.Memory.{Memory}
use prog.Routine.{Routine}
use types.Logic.{Logic}
use contract.Lifetimes.{Lfts}
use contract.Monad.{Fun, fact}
use denote.Triple.Clauses.{AtExit}
use denote.Triple.Entry.{Args, Res}
use borrow.Fn.Kinds.{Dens, res_t, ended_of}
use Rattle.refusals.specs.declared.Refusal.TheVariants as refusal
use Rattle.refusals.specs.Said.{number, gives}
use Rattle.refusals.proofs.Clauses.{so_too}
use Rattle.capture.specs.Block.{part, count_of, start_of, time_of, good, at, has_record, record_of, message_of}
use Rattle.capture.specs.Reader as reader
use Rattle.capture.specs.Said.{timed, block_said, record_said, block_table, timed_in}
use Rattle.capture.specs.declared.Reader.{Reader}
use Rattle.capture.proofs.Turns.{after_turns}
use Rattle.capture.proofs.block_of.Kinds as block-of-kinds
use Rattle.capture.proofs.block_of.Reads as Block-of
use Rattle.capture.proofs.record_of.Kinds as record-of-kinds
use Rattle.capture.proofs.record_of.Reads as record_of
use Rattle.capture.proofs.nth.Kinds as nth-kinds
use Rattle.capture.proofs.nth.Reads as nth
use Rattle.capture.specs.contracts.reader_of as reader-of
use Rattle.capture.specs.contracts.advance as advance

says_count : (t : Bool) (n : ℕ) → block_said (cond t (Ok n) (Err refusal.Block)) ≡ cond t (gives n) (number 11)
says_count true n = refl
says_count false n = refl

-- the time, and the message from a to e
says_timed : (t : Bool) (b : List ℕ) (time a e : ℕ) → a + 14 ≡ e → record_said b (cond t (Some (at time a)) None) ≡ gives (cond t (Some (timed time (cond t (part a e b) []))) None)
says_timed true b time a e h = ap (λ (k : ℕ). gives (Some (timed time (part a k b)))) h
says_timed false b time a e h = refl

says_record : (b : List ℕ) (i : ℕ) → record_said b (record_of b i) ≡ gives (timed_in b i)
unfolding record_of message_of
says_record b i = says_timed (has_record b i) b (time_of b i) (start_of i + 8) (start_of i + 22) (omega arith)

pub block_of_promised : (κs : Lfts 1) (args : Dens κs block-of-kinds.ps) (x : (res_t block-of-kinds.r κs).Denot)
    (left : AtExit (ended_of 1 block-of-kinds.ps block-of-kinds.r) κs) → Block-of.Post κs args x left → block_said x ≡ block_table args.0.now
block_of_promised κs args x left p = ap block_said p ∙ says_count (good args.0.now) (count_of args.0.now)

pub record_of_promised : (κs : Lfts 1) (args : Dens κs record-of-kinds.ps) (x : (res_t record-of-kinds.r κs).Denot)
    (left : AtExit (ended_of 1 record-of-kinds.ps record-of-kinds.r) κs) → record_of.Post κs args x left
    → record_said args.0.now x ≡ gives (timed_in args.0.now args.1.0)
record_of_promised κs args x left p = ap (record_said args.0.now) p ∙ says_record args.0.now args.1.0

pub nth_promised : (κs : Lfts 1) (args : Dens κs nth-kinds.ps) (x : (res_t nth-kinds.r κs).Denot)
    (left : AtExit (ended_of 1 nth-kinds.ps nth-kinds.r) κs) → nth.Post κs args x left
    → record_said args.0.now x ≡ gives (timed_in args.0.now args.1.0)
nth_promised κs args x left p = ap (record_said args.0.now) (p ∙ after_turns args.0 args.1.0) ∙ says_record args.0.now args.1.0

-- ---- the reader's two functions, whose contracts are stated in the program logic

module _ {M : Type 1} {𝓤 : Ura M} (𝓛 : Logic 𝓤) (mem : Memory → SProp 𝓤) (run : Routine → Fun 𝓤) where
  -- the first record of the block, or the end
  pub reader_of_promised : (κs : Lfts 1) (args : Args reader-of.signature κs) (x : Res reader-of.signature κs) (left : AtExit reader-of.ended κs)
      → ent 𝓤 ((reader-of.clauses 𝓛 mem run κs args).ensures tt x left) (fact 𝓤 (record_said args.0.now (reader.gives x) ≡ gives (timed_in args.0.now 0)))
  reader_of_promised κs args x left =
      so_too 𝓤 _ _ (λ p. ap (λ (r : Reader). record_said args.0.now (reader.gives r)) p ∙ says_record args.0.now 0)

  -- the record that the reader stands at, of its block, or the end
  pub advance_promised : (κs : Lfts 2) (args : Args advance.signature κs) (x : Res advance.signature κs) (left : AtExit advance.ended κs)
      → ent 𝓤 ((advance.clauses 𝓛 mem run κs args).ensures tt x left)
      (fact 𝓤 (record_said args.0.now.block.now x ≡ gives (timed_in args.0.now.block.now args.0.now.at)))
  advance_promised κs args x left =
      so_too 𝓤 _ _ (λ p. ap (record_said args.0.now.block.now) p.0 ∙ says_record args.0.now.block.now args.0.now.at)
