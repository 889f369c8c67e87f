-- The best key so far is the smallest one above of the places passed.
use Rattle.std.proofs.Common.{◌≡◌}
use Rattle.slice_table.specs.Code.{smallest}
use Rattle.slice_table.proofs.smallest_above.Given as goal

abbrev pub invariant-loop-p : goal.invariant-loop-p
invariant-loop-p l = l.best ≡ smallest l.places l.s.clock l.s.key l.p-index
