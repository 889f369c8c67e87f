-- What private functions promise to each other: the rules of any form that no public function needs, at the bytes. No public contract cites this file.
use Rattle.std.specs.Prelude.{ℕ, List, Result, Option}
use Rattle.rules.specs.Rules as rules
use Rattle.rules.specs.View as views
use Rattle.table.specs.Bytes.{bytes}
use Rattle.table.specs.Table.{After}
use Rattle.messages.specs.declared.Message.{Message}
use Rattle.refusals.specs.declared.Refusal.{Refusal}

abbrev pub delivered : List ℕ → Result Message Refusal → ℕ → After (Result Message Refusal)
delivered s d time = rules.delivered bytes s d time

-- what the answer of `next` says of the keys held
abbrev pub Follows : List ℕ → ℕ → Result (Option ℕ) Refusal → Type 0
Follows s above answer = views.Follows bytes s above answer
