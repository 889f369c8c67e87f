-- Decoding and encoding, one after the other, for a buffer of 14 bytes: by the round trips of a message and its bytes.
-- Assumes nothing.
use Rattle.std.specs.Prelude.{⊤, Result, Ok, Err}
use Prim.Native.Nat.{ℕ}
use mathlib.Core.Path.{◌≡◌, refl}
use mathlib.Core.Bool.{Bool, true, false, cond, not}
use mathlib.Core.List.{List}
use native.Mathlib.Omega.{arith}
use borrow.Author.Tests.{eq-eqb}
use lib.Dec.{eqb}
use lib.ListN.{length}
use Rattle.refusals.specs.declared.Refusal.{Refusal}
use Rattle.refusals.specs.declared.Refusal.TheVariants.{Length, Field}
use Rattle.fields.specs.Bytes.{Bytes}
use Rattle.messages.specs.declared.Message.{Message}
use Rattle.messages.specs.Message.{decoded, message_fits}
use Rattle.messages.proofs.BothWays.{encoded_decoded, decoded_good}
use Rattle.encoder.specs.Encoded.{encoded, encoded_bytes}

-- an accepted message, decoded and encoded, is the same 14 bytes
pub decoded_encoded : (s out : List ℕ) (m : Message) → Bytes s → length out ≡ 14 → decoded s ≡ Ok m
    → (encoded m out ≡ Ok tt) × (encoded_bytes m out ≡ s)
decoded_encoded s out m h l d =
    let g = decoded_good s m h d in
    let e = eq-eqb (length out) 14 l in
    (rw (e, g.0), rw (e, g.0) g.1)

if_written : (a b : Bool) → ◌≡◌ {A = Result ⊤ Refusal} (cond (not a) (Err Length) (cond (not b) (Err Field) (Ok tt))) (Ok tt) → (a ≡ true) × (b ≡ true)
if_written true true e = (refl, refl)
if_written true false e = let z : ◌≡◌ {A = ℕ} 0 1 = cc in let f : ⊥ = omega arith in absurd f
if_written false b e = let z : ◌≡◌ {A = ℕ} 0 1 = cc in let f : ⊥ = omega arith in absurd f

-- accepted fields, encoded and decoded, come back equal
pub encoded_back : (m : Message) (out : List ℕ) → encoded m out ≡ Ok tt → decoded (encoded_bytes m out) ≡ Ok m
encoded_back m out w =
    let g = if_written (eqb (length out) 14) (message_fits m) w in
    rw (g.0, g.1) (encoded_decoded m g.1)
