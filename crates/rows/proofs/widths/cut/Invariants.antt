-- `rows::widths::cut` meets its contract: what the loop has passed is cut, and the bits below are those of the widths behind.
use Prim.Native.Nat.{◌-◌, ◌≤◌}
use mathlib.Core.Path.{◌≡◌}
use lib.ListN.{length, take, drop}
use Rattle.fields.specs.Packing.{total, unpack}
use Rattle.entries.specs.Arrays.{filled}
use Rattle.rows.proofs.widths.cut.Given as goal

abbrev pub invariant-loop-i : goal.invariant-loop-i
invariant-loop-i l =
    (l.i ≤ length l.widths) × (l.below ≡ total (drop l.i l.widths)) × (l.below ≤ 56) × (length l.out ≡ 15) × (l.out ≡ filled 15 (take l.i (unpack l.widths l.me)))

abbrev pub decreases-loop-i : goal.decreases-loop-i
decreases-loop-i l = length l.widths - l.i
