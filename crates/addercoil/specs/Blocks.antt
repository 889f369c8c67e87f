-- RULES 20.6: a capture's blocks for another language, and what a call leaves that is lent a table and an array.
use Rattle.std.specs.Prelude.{List, [], ◌∷◌, ℕ, Result, Ok, Err}
use Rattle.refusals.specs.Numbers.{number_of}
use Rattle.refusals.specs.Said.{Said, number, gives}
use Rattle.table.specs.Table.{After}
use Rattle.entries.specs.Sent.{Sent, given}
use Rattle.refusals.specs.declared.Refusal.{Refusal}

-- what a call leaves that is lent a table and an array
pub record Both : Type 0 where
  pub sent : Sent
  pub table : List ℕ

abbrev pub both : Sent → List ℕ → Both
both x s = record { sent = x; table = s }

-- the count of bad blocks
abbrev pub fed_said : Result ℕ Refusal → Said (List ℕ)
fed_said (Ok n) = gives (n ∷ [])
fed_said (Err r) = number (number_of r)

unfoldable pub fed_into : List ℕ → After (Result ℕ Refusal) → Both
fed_into out a = both (given out (fed_said a.answer)) a.table
