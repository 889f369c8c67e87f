-- The encoder's answer in the rules' terms: 1, then 8, else the 14 bytes; what it takes is just what the decoder can answer; a refusal changes nothing.
-- By the cases of its two tests, and by the two round trips.
-- Assumes nothing.
use Rattle.std.specs.Prelude.{⊤, Result, Ok, Err}
use Prim.Native.Nat.{ℕ}
use mathlib.Core.Path.{◌≡◌, refl}
use mathlib.Core.Bool.{Bool, true, false, cond, not, ◌&&◌}
use mathlib.Core.Logic.{◌↔◌}
use mathlib.Core.List.{List}
use native.Mathlib.Omega.{arith}
use lib.Dec.{eqb}
use lib.ListN.{length}
use Rattle.refusals.specs.declared.Refusal.{Refusal}
use Rattle.refusals.specs.declared.Refusal.TheVariants.{Length, Field}
use Rattle.refusals.specs.Said.{number, gives}
use Rattle.fields.specs.Bytes.{Bytes}
use Rattle.messages.specs.Message.{decoded, message_fits, message_bytes}
use Rattle.messages.specs.declared.Message.{Message}
use Rattle.encoder.specs.Encoded.{encoded, encoded_bytes, wrote}
use Rattle.messages.proofs.BothWays.{encoded_decoded, decoded_good, message_bytes_lem}

unchanged : (a b : Bool) (x y : List ℕ) (r : Refusal)
    → ◌≡◌ {A = Result ⊤ Refusal} (cond (not a) (Err Length) (cond (not b) (Err Field) (Ok tt))) (Err r) → cond (a && b) x y ≡ y
unchanged true true x y r e = let z : ◌≡◌ {A = ℕ} 0 1 = cc in let f : ⊥ = omega arith in absurd f
unchanged true false x y r e = refl
unchanged false b x y r e = refl

-- a refusal leaves the buffer as it was
pub refused_unchanged : (m : Message) (out : List ℕ) (r : Refusal) → encoded m out ≡ Err r → encoded_bytes m out ≡ out
refused_unchanged m out r e = unchanged (eqb (length out) 14) (message_fits m) (message_bytes m) out r e

by_tests : (a b : Bool) (x y : List ℕ)
    → wrote (cond (not a) (Err Length) (cond (not b) (Err Field) (Ok tt))) (cond (a && b) x y)
    ≡ cond (not a) (number 1) (cond (not b) (number 8) (gives x))
by_tests true true x y = refl
by_tests true false x y = refl
by_tests false b x y = refl

-- 1 for a buffer that is not of 14 bytes, then 8 for fields that no acceptable message has, else the message's bytes
pub encoder_says : (m : Message) (out : List ℕ)
    → wrote (encoded m out) (encoded_bytes m out) ≡ cond (not (eqb (length out) 14)) (number 1) (cond (not (message_fits m)) (number 8) (gives (message_bytes m)))
encoder_says m out = by_tests (eqb (length out) 14) (message_fits m) (message_bytes m) out

-- the fields that are taken are just those that the decoder answers of some bytes
pub taken_exactly : (m : Message) → message_fits m ≡ true ↔ ((s : List ℕ) × Bytes s × (decoded s ≡ Ok m))
taken_exactly m = (
  λ e. (message_bytes m, message_bytes_lem m, encoded_decoded m e),
  λ p. (decoded_good p.0 m p.1 p.2).0,
)
