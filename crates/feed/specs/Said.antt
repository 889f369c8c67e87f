-- RULES 11.4 and 19.3: what the answer says in the rules' terms: a number, or how many blocks are bad.
use Rattle.std.specs.Prelude.{ℕ, Result, Ok, Err}
use Rattle.refusals.specs.Numbers.{number_of}
use Rattle.refusals.specs.Said.{Said, number, gives}
use Rattle.refusals.specs.declared.Refusal.{Refusal}

abbrev pub fed_said : Result ℕ Refusal → Said ℕ
fed_said (Ok n) = gives n
fed_said (Err r) = number (number_of r)
