-- `encode` has one answer and leaves one buffer: two that satisfy its contract both equal its definition.
-- Assumes nothing.
use Rattle.std.specs.Prelude.{⊤, Result}
use Prim.Native.Nat.{ℕ}
use mathlib.Core.Path.{sym, ap₂, ◌∙◌}
use mathlib.Core.List.{List}
use Rattle.refusals.specs.Answers.{OneOutcome}
use Rattle.encoder.proofs.encode.Kinds as encode-kinds
use Rattle.encoder.proofs.encode.Reads as encode
use Rattle.refusals.specs.declared.Refusal.{Refusal}

pub encode_once : OneOutcome 1 encode-kinds.ps encode-kinds.r (Result ⊤ Refusal × List ℕ) (λ κs x left. (x, left.1.0.now)) encode.Post
encode_once κs args x y left left' p q = ap₂ (λ (a : Result ⊤ Refusal) (b : List ℕ). (a, b)) (p.0 ∙ sym q.0) (p.1 ∙ sym q.1)
