-- `positions::latitude_whole` meets its contract: rounding one turn up is rounding, one turn up; a pole is a whole number of counts.
use Prim.Native.Nat.{◌*◌, ◌≤◌}
use native.Mathlib.Omega.{arith}
use native.Mathlib.Nat.{mul-le-mul, mul-pos}
use Rattle.positions.proofs.Naturals.{whole_is, whole_low, whole_high}
use Rattle.positions.proofs.latitude_whole.Goals as goal

pub returns : goal.returns
returns c =
    let a = c.args in
    let all : a.n * (4 * a.q) ≤ 31457280 = mul-le-mul {n₂ = 240} {m₂ = 131072} (omega arith) (omega arith) in
    let low = whole_low a.q a.n a.up (omega arith) (omega arith) in
    let high = whole_high a.q a.n a.up (omega arith) (omega arith) in
    rw c.nearest.ensures (
      whole_is (4 * a.q) a.n a.up (mul-pos {m = a.n} {n = 4 * a.q} (omega arith) (omega arith)),
      (record { south = low; north = high }, omega (arith, high, all)),
    )
