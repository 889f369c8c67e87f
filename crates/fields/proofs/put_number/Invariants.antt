-- `fields::put_number` meets its contract: from `i` on the bytes are written, and `rest` is what is above them.
use Prim.Native.Nat.{◌*◌, ◌-◌, ◌/◌, ◌^◌}
use mathlib.Core.Path.{◌≡◌}
use lib.ListN.{length, drop}
use Rattle.fields.specs.Bytes.{bytes_of}
use Rattle.fields.proofs.put_number.Given as goal

abbrev pub invariant-loop-i : goal.invariant-loop-i
invariant-loop-i l = (length l.out ≡ length l.initial.out) × (l.rest ≡ l.n / 2 ^ (8 * (length l.initial.out - l.i))) × (drop l.i l.out ≡ bytes_of (length l.initial.out - l.i) l.n)
