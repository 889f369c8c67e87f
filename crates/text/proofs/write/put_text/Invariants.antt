-- `text::write::put_text` meets its contract: the bytes passed are written.
use Prim.Native.Nat.{◌+◌}
use mathlib.Core.Path.{◌≡◌}
use lib.ListN.{length, take}
use Rattle.text.specs.Code.{Wrote}
use Rattle.text.proofs.write.put_text.Given as goal

abbrev pub invariant-loop-b : goal.invariant-loop-b
invariant-loop-b l =
    (length l.out ≡ length l.initial.out) × (l.a ≡ l.at + l.b-index) × Wrote l.initial.out l.at (take l.b-index l.text) l.a l.out
