-- RULES 14.8: a check for another language: 0 for yes, else the line at fault, or a number.
use Rattle.std.specs.Prelude.{ℕ, List, [], ◌∷◌, Option, Some, None, Result, Ok, Err}
use Rattle.refusals.specs.Numbers.{number_of}
use Rattle.refusals.specs.Said.{Said, number, gives}
use Rattle.refusals.specs.declared.Refusal.{Refusal}

abbrev pub check_said : Result (Option ℕ) Refusal → Said (List ℕ)
check_said (Ok None) = gives (0 ∷ [])
check_said (Ok (Some line)) = gives (line ∷ [])
check_said (Err r) = number (number_of r)
