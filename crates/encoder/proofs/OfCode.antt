-- Demand 2 of the code: what meets the contracts of `decode` and `encode`, one after the other, comes back, both ways. By the two round trips of the definitions.
-- Assumes nothing.
use Rattle.std.specs.Prelude.{⊤, Result, Ok}
use Prim.Native.Nat.{ℕ}
use mathlib.Core.Path.{◌≡◌, sym, ap, ap₂, ◌∙◌}
use mathlib.Core.List.{List}
use lib.ListN.{length}
use contract.Lifetimes.{Lfts}
use denote.Triple.Clauses.{AtExit}
use borrow.Fn.Kinds.{Dens, ended_of}
use Rattle.fields.specs.Bytes.{Bytes}
use Rattle.messages.specs.declared.Message.{Message}
use Rattle.messages.specs.Message.{decoded}
use Rattle.messages.proofs.OfCode.{DecodeMet, decodes}
use Rattle.encoder.specs.Encoded.{encoded, encoded_bytes}
use Rattle.encoder.proofs.BothWays.{decoded_encoded, encoded_back}
use Rattle.encoder.proofs.encode.Kinds as encode-kinds
use Rattle.encoder.proofs.encode.Reads as encode
use Rattle.refusals.specs.declared.Refusal.{Refusal}

-- ---- calls that met their contracts

-- `encode` was given a message and lent a buffer, answered x, and left the bytes s
pub record EncodeMet (m : Message) (out : List ℕ) (x : Result ⊤ Refusal) (s : List ℕ) : Type 0 where
  pub κs : Lfts 1
  pub args : Dens κs encode-kinds.ps
  pub left : AtExit (ended_of 1 encode-kinds.ps encode-kinds.r) κs
  pub given : args.0 ≡ m
  pub lent : args.1.0.now ≡ out
  pub leaves : left.1.0.now ≡ s
  pub meets : encode.Post κs args x left

encodes : {m : Message} {out : List ℕ} {x : Result ⊤ Refusal} {s : List ℕ} → EncodeMet m out x s → (x ≡ encoded m out) × (s ≡ encoded_bytes m out)
encodes {m} {out} e = (
  e.meets.0 ∙ ap₂ encoded e.given e.lent,
  sym e.leaves ∙ e.meets.1 ∙ ap₂ encoded_bytes e.given e.lent,
)

-- ---- both ways

-- an accepted message, decoded and encoded, is the same 14 bytes
pub code_decoded_encoded : {s out t : List ℕ} {m : Message} {x : Result ⊤ Refusal} → Bytes s → length out ≡ 14
    → DecodeMet s (Ok m) → EncodeMet m out x t → (x ≡ Ok tt) × (t ≡ s)
code_decoded_encoded {s} {out} {t} {m} h l d e =
    let g = decoded_encoded s out m h l (sym (decodes d)) in
    ((encodes e).0 ∙ g.0, (encodes e).1 ∙ g.1)

-- accepted fields, encoded and decoded, come back equal
pub code_encoded_decoded : {out t : List ℕ} {m : Message} {y : Result Message Refusal} → EncodeMet m out (Ok tt) t → DecodeMet t y → y ≡ Ok m
code_encoded_decoded {out} {t} {m} e d = decodes d ∙ ap decoded (encodes e).1 ∙ encoded_back m out (sym (encodes e).0)
