-- `positions::latitude_in` meets its contract: from 270 degrees up the number itself is one turn above the latitude.
use Prim.Native.Nat.{◌+◌, ◌*◌}
use native.Mathlib.Omega.{arith}
use Rattle.positions.proofs.Naturals.{less_high, less_low}
use Rattle.positions.proofs.latitude_in.Goals as goal

pub returns-then-m-v : goal.returns-then-m-v
returns-then-m-v c =
    let a = c.args in
    record {
      is = less_high (a.z * 131072) (a.zone.0 * 131072 + a.count.0) (omega arith);
      south = omega arith;
      below = omega arith;
    }

pub returns-else-m-v : goal.returns-else-m-v
returns-else-m-v c =
    let a = c.args in
    record {
      is = less_low (a.z * 131072) (a.zone.0 * 131072 + a.count.0) (omega arith);
      south = omega arith;
      below = omega arith;
    }
