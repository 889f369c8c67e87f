-- Of the code: what `decode` took, with one bit flipped, it refuses with 3.
-- Assumes nothing.
use Rattle.std.specs.Prelude.{Result, Ok}
use Prim.Native.Nat.{ℕ, ◌≤◌}
use mathlib.Core.Path.{◌≡◌, refl, sym, ap, ◌∙◌}
use mathlib.Core.List.{List}
use contract.Lifetimes.{Lfts}
use denote.Triple.Clauses.{AtExit}
use borrow.Fn.Kinds.{Dens, ended_of}
use Rattle.refusals.specs.Said.{number}
use Rattle.parity.specs.Parity.{flipped}
use Rattle.messages.specs.declared.Message.{Message}
use Rattle.messages.specs.Message.{decoded}
use Rattle.messages.specs.Said.{said}
use Rattle.messages.proofs.Damaged.{damaged_is_3}
use Rattle.messages.proofs.decode.Kinds as decode-kinds
use Rattle.messages.proofs.decode.Reads as decode
use Rattle.refusals.specs.declared.Refusal.{Refusal}

-- `decode` was lent the bytes s and answered x
pub record DecodeMet (s : List ℕ) (x : Result Message Refusal) : Type 0 where
  pub κs : Lfts 1
  pub args : Dens κs decode-kinds.ps
  pub left : AtExit (ended_of 1 decode-kinds.ps decode-kinds.r) κs
  pub lent : args.0.now ≡ s
  pub meets : decode.Post κs args x left

pub decodes : {s : List ℕ} {x : Result Message Refusal} → DecodeMet s x → x ≡ decoded s
decodes d = d.meets ∙ ap decoded d.lent

pub code_flipped : (s : List ℕ) (k : ℕ) {m : Message} {x : Result Message Refusal} → 1 ≤ k → k ≤ 112 → DecodeMet s (Ok m) → DecodeMet (flipped k s) x → said x ≡ number 3
code_flipped s k {m} l h d e =
    ap said (decodes e ∙ damaged_is_3 (flipped k s) (record { sent = s; acceptable = (m, sym (decodes d)); bit = k; from = l; to = h; heard = refl }))
