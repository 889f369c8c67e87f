-- `merge::lines::put_part` meets its contract: so many bytes as the loop has passed are copied.
use Prim.Native.Nat.{◌+◌, ◌-◌}
use mathlib.Core.Path.{◌≡◌}
use lib.ListN.{length}
use Rattle.text.specs.Code.{Wrote}
use Rattle.form.specs.Scan.{part}
use Rattle.merge.proofs.lines.put_part.Given as goal

abbrev pub invariant-loop-i : goal.invariant-loop-i
invariant-loop-i l =
    (l.k ≡ l.at + (l.i - l.from)) × (length l.out ≡ length l.initial.out) × Wrote l.initial.out l.at (part l.from l.i l.s) l.k l.out
