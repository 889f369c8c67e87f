-- `merge::head::are_one` meets its contract: the sum fits if one is at most what is left above the other.
use mathlib.Core.Path.{ap}
use mathlib.Core.Bool.{Bool, ◌&&◌}
use native.Mathlib.Omega.{arith}
use lib.Dec.{eqb}
use Rattle.merge.proofs.Numbers.{sum_fits}
use Rattle.merge.proofs.head.are_one.Goals as goal

pub returns : goal.returns
returns c =
    let x = c.args.x in
    let y = c.args.y in
    ap (λ (t : Bool). x.right && y.right && eqb x.clock y.clock && t) (sum_fits x.bad y.bad (omega arith))
