-- `form::words::all_digits` meets its contract: the bytes passed are such digits.
use mathlib.Core.Path.{◌≡◌}
use mathlib.Core.Bool.{true}
use lib.ListN.{take}
use Rattle.std.specs.List.{list_all}
use Rattle.form.specs.Form.{is_digit}
use Rattle.form.proofs.words.all_digits.Given as goal

abbrev pub invariant-loop-b : goal.invariant-loop-b
invariant-loop-b l = list_all is_digit (take l.b-index l.w) ≡ true
