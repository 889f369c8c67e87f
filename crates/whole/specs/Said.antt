-- RULES 12.1 and 19.3: what the answer says in the rules' terms: a number, or what is in the buffer.
use Rattle.std.specs.Prelude.{ℕ, List, Result, Ok, Err}
use Rattle.refusals.specs.Numbers.{number_of}
use Rattle.refusals.specs.Said.{Said, number, gives}
use Rattle.whole.specs.Whole.{Left}
use Rattle.refusals.specs.declared.Refusal.{Refusal}

abbrev pub listed_said : Result ℕ Refusal → List ℕ → Said (List ℕ)
listed_said (Ok n) out = gives out
listed_said (Err r) out = number (number_of r)

abbrev pub answer_said : Left → Said (List ℕ)
answer_said l = listed_said l.answer l.out
