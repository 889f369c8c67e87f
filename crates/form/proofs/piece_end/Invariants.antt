-- `form::piece_end` meets its contract: no byte passed is the separator.
use mathlib.Core.Path.{◌≡◌}
use mathlib.Core.Bool.{true}
use Rattle.form.specs.Scan.{part}
use Rattle.form.proofs.Pieces.{free}
use Rattle.form.proofs.piece_end.Given as goal

abbrev pub invariant-loop-i : goal.invariant-loop-i
invariant-loop-i l = free l.sep (part l.from l.i l.s) ≡ true
