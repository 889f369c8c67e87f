-- RULES 20.3 and 20.4: a message for another language, as the row of numbers of the crate `rows`.
use Rattle.std.specs.Prelude.{ℕ, cond, not, ◌||◌, List, eqb, length, Result, Ok, Err, ⊤}
use Rattle.refusals.specs.Numbers.{number_of}
use Rattle.refusals.specs.Said.{Said, number, gives}
use Rattle.addercoil.specs.Done.{done_number}
use Rattle.encoder.specs.Encoded.{encoded, encoded_bytes}
use Rattle.rows.specs.From.{message_from}
use Rattle.rows.specs.Rows.{row_size, message_row}
use Rattle.entries.specs.Sent.{Sent, sent}
use Rattle.messages.specs.declared.Message.{Message}
use Rattle.refusals.specs.declared.Refusal.{Refusal}

-- a decoded message
abbrev pub message_said : Result Message Refusal → Said (List ℕ)
message_said (Ok m) = gives (message_row m)
message_said (Err r) = number (number_of r)

-- the encoder's answer, and the bytes that it leaves
abbrev pub encoded_as : List ℕ → Result Message Refusal → Sent
encoded_as out (Ok m) = sent (done_number (encoded m out)) (encoded_bytes m out)
encoded_as out (Err r) = sent (number_of r) out

-- 1 for a wrong length of either, then 8
unfoldable pub encoded_from : List ℕ → List ℕ → Sent
encoded_from fields out = cond (not (eqb (length fields) row_size) || not (eqb (length out) 14)) (sent 1 out) (encoded_as out (message_from fields))
