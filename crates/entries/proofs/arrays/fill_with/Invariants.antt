-- `entries::arrays::fill_with` meets its contract: what the loop has passed is filled.
use Prim.Native.Nat.{◌-◌, ◌≤◌}
use mathlib.Core.Path.{◌≡◌}
use lib.ListN.{length, take}
use Rattle.entries.specs.Arrays.{filled_by}
use Rattle.entries.proofs.arrays.fill_with.Given as goal

abbrev pub invariant-loop-i : goal.invariant-loop-i
invariant-loop-i g l = (l.i ≤ length l.out) × (length l.out ≡ length l.initial.out) × (take l.i l.out ≡ filled_by l.rest l.i l.values)

abbrev pub decreases-loop-i : goal.decreases-loop-i
decreases-loop-i g l = length l.out - l.i
