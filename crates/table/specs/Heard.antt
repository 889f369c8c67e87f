-- RULES 9 and 19.3: what a received message does where nobody asks what it says: the same to the table, and done where the answer is a message.
use Rattle.std.specs.Prelude.{Result, Ok, Err, ⊤}
use Rattle.table.specs.Table.{After, after}
use Rattle.messages.specs.declared.Message.{Message}
use Rattle.refusals.specs.declared.Refusal.{Refusal}

abbrev pub heard_as : Result Message Refusal → Result ⊤ Refusal
heard_as (Ok m) = Ok tt
heard_as (Err r) = Err r

abbrev pub heard : After (Result Message Refusal) → After (Result ⊤ Refusal)
heard a = after (heard_as a.answer) a.table
