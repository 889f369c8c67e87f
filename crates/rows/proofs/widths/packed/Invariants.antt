-- `rows::widths::packed` meets its contract: what is left to pack behind the fields that the loop has passed is the same all the way.
use Prim.Native.Nat.{◌+◌, ◌-◌, ◌^◌, ◌≤◌, ◌<◌}
use mathlib.Core.Path.{◌≡◌}
use lib.ListN.{length, drop}
use Rattle.fields.specs.Packing.{total}
use Rattle.rows.specs.From.{packed_by}
use Rattle.rows.proofs.Cutting.{left}
use Rattle.rows.proofs.widths.packed.Given as goal

abbrev pub invariant-loop-i : goal.invariant-loop-i
invariant-loop-i l =
    (l.i ≤ length l.widths) × (total (drop l.i l.widths) ≤ 56) × (l.me < 2 ^ (56 - total (drop l.i l.widths))) × (packed_by l.widths l.fields ≡ left l.fields l.me (5 + l.i) (drop l.i l.widths))

abbrev pub decreases-loop-i : goal.decreases-loop-i
decreases-loop-i l = length l.widths - l.i
