-- RULES 10.5: a message received with a stamp where nobody asks what it says: the same to the table and the state, and done where the answer is a message.
use Rattle.std.specs.Prelude.{Result, ⊤}
use Rattle.rules.specs.Rules.{After, after}
use Rattle.table.specs.Heard.{heard_as}
use Rattle.stamps.specs.declared.Stamps.{Stamps}
use Rattle.stamps.specs.declared.Stamped.{Stamped}
use Rattle.stamps.specs.declared.Noted.{Noted}
use Rattle.refusals.specs.declared.Refusal.{Refusal}

abbrev pub noted : Result ⊤ Refusal → Stamps → Noted
noted a state = record { answer = a; state = state }

abbrev pub heard : {S : Type 0} → After S Stamped → After S Noted
heard a = after (noted (heard_as a.answer.answer) a.answer.state) a.table
