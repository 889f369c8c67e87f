-- `merge::head::count` meets its contract: the lines passed are counted, and each has a byte at least.
use Prim.Native.Nat.{◌+◌, ◌-◌, ◌≤◌}
use mathlib.Core.Path.{◌≡◌}
use lib.ListN.{length}
use Rattle.form.specs.Scan.{lines_from}
use Rattle.merge.proofs.head.count.Given as goal

abbrev pub invariant-loop-from : goal.invariant-loop-from
invariant-loop-from l =
    (l.at ≤ length l.s) × (l.from + l.n ≤ l.at) × (length (lines_from l.s l.from) ≡ l.n + length (lines_from l.s l.at))

abbrev pub decreases-loop-from : goal.decreases-loop-from
decreases-loop-from l = length l.s - l.at
