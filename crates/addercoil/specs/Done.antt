-- RULES 20.1: what a call returns that hands out nothing: 0 where it is done, or the number of its refusal.
use Rattle.std.specs.Prelude.{ℕ, Result, Ok, Err, ⊤}
use Rattle.refusals.specs.Numbers.{number_of}
use Rattle.refusals.specs.declared.Refusal.{Refusal}

abbrev pub done_number : Result ⊤ Refusal → ℕ
done_number (Ok tt) = 0
done_number (Err r) = number_of r
