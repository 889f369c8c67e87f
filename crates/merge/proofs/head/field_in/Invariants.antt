-- `merge::head::field_in` meets its contract: the digits passed are in the number, so the rest tells the whole.
use Prim.Native.Nat.{◌-◌, ◌≤◌}
use mathlib.Core.Path.{◌≡◌}
use lib.ListN.{length, drop}
use Rattle.merge.specs.Merged.{number_from, behind}
use Rattle.merge.proofs.head.field_in.Given as goal

abbrev pub invariant-loop-i : goal.invariant-loop-i
invariant-loop-i l =
    (l.i ≤ length l.s) × (number_from 0 (drop l.label (drop l.from l.s)) ≡ number_from l.n (drop l.i l.s)) × (behind (drop l.label (drop l.from l.s)) ≡ behind (drop l.i l.s))

abbrev pub decreases-loop-i : goal.decreases-loop-i
decreases-loop-i l = length l.s - l.i
