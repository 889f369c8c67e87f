-- `fields::put_number` meets its contract: from `i` on the bytes are written, and `rest` is what is above them.
use Prim.Native.Nat.{ℕ, suc, ◌-◌, ◌/◌}
use mathlib.Core.Path.{◌≡◌, ap, ◌∙◌}
use native.Mathlib.Omega.{arith}
use lib.ListN.{length, length-set}
use Rattle.fields.proofs.Bytes.{put_byte, shr_byte}
use Rattle.fields.proofs.put_number.Goals as goal

pub loop-i-preserved : goal.loop-i-preserved
loop-i-preserved c =
    let n = c.args.n in
    let inv = c.loop-i.invariant in
    let len : ℕ = length c.args.out.now in
    let k : ℕ = len - c.loop-i.i in
    let e : len - (c.loop-i.i - 1) ≡ suc k = omega arith in
    let d : suc (c.loop-i.i - 1) ≡ c.loop-i.i = omega arith in (
      simp length-set inv.0,
      rw e (ap (λ (r : ℕ). r / 256) inv.1 ∙ shr_byte n k),
      rw (e, inv.1) (put_byte c.loop-i.out n (c.loop-i.i - 1) k (omega arith) (rw d inv.2)),
    )
