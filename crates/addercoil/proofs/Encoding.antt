-- The ways out of the encoder: arrays of a wrong length, a layout that there is not, or what the encoder below answers and leaves.
-- Assumes nothing.
use Rattle.std.specs.Prelude.{Result, Ok, Err, ⊤}
use Prim.Native.Nat.{ℕ}
use mathlib.Core.Path.{◌≡◌, sym, ap, ap₂, ◌∙◌}
use mathlib.Core.Bool.{true, false, not, ◌||◌}
use mathlib.Core.List.{List}
use lib.Dec.{eqb}
use lib.ListN.{length}
use Rattle.refusals.specs.declared.Refusal.{Refusal}
use Rattle.refusals.specs.Numbers.{number_of}
use Rattle.messages.specs.declared.Message.{Message}
use Rattle.encoder.specs.Encoded.{encoded, encoded_bytes}
use Rattle.rows.specs.From.{message_from}
use Rattle.entries.specs.Sent.{Sent, sent}
use Rattle.addercoil.specs.Done.{done_number}
use Rattle.addercoil.specs.Messages.{encoded_as, encoded_from}

module _ (out : List ℕ) where
  pub encoded_on : {a : Result Message Refusal} {m : Message} {r : ℕ} {e : Result ⊤ Refusal} {l : List ℕ} → a ≡ Ok m → r ≡ done_number e → e ≡ encoded m out → l ≡ encoded_bytes m out → sent r l ≡ encoded_as out a
  encoded_on g p q b = ap₂ sent (p ∙ ap done_number q) b ∙ ap (encoded_as out) (sym g)

  pub encoded_refused : {a : Result Message Refusal} {x : Refusal} {r : ℕ} → a ≡ Err x → r ≡ number_of x → sent r out ≡ encoded_as out a
  encoded_refused g p = ap (λ (n : ℕ). sent n out) p ∙ ap (encoded_as out) (sym g)

  module _ (fields : List ℕ) where
    pub encode_wrong : (not (eqb (length fields) 28) || not (eqb (length out) 14)) ≡ true → sent 1 out ≡ encoded_from fields out
    unfolding encoded_from
    encode_wrong h = rw h

    pub encode_right : {a : Result Message Refusal} {s : Sent} → (not (eqb (length fields) 28) || not (eqb (length out) 14)) ≡ false → a ≡ message_from fields → s ≡ encoded_as out a → s ≡ encoded_from fields out
    unfolding encoded_from
    encode_right h e p = p ∙ ap (encoded_as out) e ∙ rw h
