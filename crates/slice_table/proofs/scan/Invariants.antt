-- What is found so far is the scan of the places passed.
use Rattle.std.proofs.Common.{◌≡◌}
use Rattle.slice_table.specs.Code.{scanned}
use Rattle.slice_table.proofs.scan.Given as goal

abbrev pub invariant-loop-i : goal.invariant-loop-i
invariant-loop-i l = l.found ≡ scanned l.places l.s l.i
