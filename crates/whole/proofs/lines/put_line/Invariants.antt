-- `whole::lines::put_line` meets its contract: so many bytes as the loop has passed are copied.
use Prim.Native.Nat.{◌-◌, ◌≤◌}
use mathlib.Core.Path.{◌≡◌}
use lib.ListN.{length}
use lib.Seq.{paste}
use Rattle.text.specs.Lines.{line_room}
use Rattle.whole.proofs.lines.put_line.Given as goal

abbrev pub invariant-loop-i : goal.invariant-loop-i
invariant-loop-i l = (l.i ≤ line_room) × (length l.out ≡ length l.initial.out) × (l.out ≡ paste l.initial.out l.at l.bytes l.i)

abbrev pub decreases-loop-i : goal.decreases-loop-i
decreases-loop-i l = line_room - l.i
