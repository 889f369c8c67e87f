-- `capture::all_zero` meets its contract: the bytes passed are zero.
use mathlib.Core.Path.{◌≡◌}
use mathlib.Core.Bool.{true}
use lib.ListN.{take}
use Rattle.capture.specs.Block.{zeros}
use Rattle.capture.proofs.all_zero.Given as goal

abbrev pub invariant-loop-x : goal.invariant-loop-x
invariant-loop-x l = zeros (take l.x-index l.s) ≡ true
