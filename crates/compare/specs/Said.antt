-- RULES 14.8 and 19.3: what the answer says in the rules' terms: a number, or 0 for yes and else the line at fault.
use Rattle.std.specs.Prelude.{ℕ, Option, Some, None, Result, Ok, Err}
use Rattle.refusals.specs.Numbers.{number_of}
use Rattle.refusals.specs.Said.{Said, number, gives}
use Rattle.refusals.specs.declared.Refusal.{Refusal}

abbrev pub checked_said : Result (Option ℕ) Refusal → Said ℕ
checked_said (Ok None) = gives 0
checked_said (Ok (Some n)) = gives n
checked_said (Err r) = number (number_of r)
