-- `readings::signed::less` meets its contract: a difference of two small numbers fits an `i32`.
use native.Mathlib.Omega.{arith}
use mir.Syntax.{w32}
use mir.Facts.{to_z_pos, to_z-of_z}
use Rattle.readings.proofs.BelowZero.{less_fits}
use Rattle.readings.proofs.signed.less.Goals as goal

pub overflow_sub-result : goal.overflow_sub-result
overflow_sub-result c =
    let n = c.args.n in
    let k = c.args.k in
    rw (to_z_pos w32 {n = n} (omega arith), to_z_pos w32 {n = k} (omega arith)) (less_fits n k (omega arith) (omega arith))

pub returns : goal.returns
returns c =
    let n = c.args.n in
    let k = c.args.k in
    rw (to_z_pos w32 {n = n} (omega arith), to_z_pos w32 {n = k} (omega arith)) (to_z-of_z (less_fits n k (omega arith) (omega arith)))
