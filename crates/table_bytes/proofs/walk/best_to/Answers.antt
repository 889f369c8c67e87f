-- `table_bytes::walk::best_to` meets its contract: the best so far is the smallest of the places that the loop has passed.
use native.Mathlib.Omega.{arith}
use mathlib.Core.Path.{◌≡◌}
use Rattle.table_bytes.specs.Layout.{place_at}
use Rattle.table_bytes.proofs.Scanned.{smallest_more}
use Rattle.table_bytes.proofs.walk.best_to.Goals as goal

pub loop-i-init : goal.loop-i-init
loop-i-init c = c.requires.3

pub loop-i-preserved : goal.loop-i-preserved
loop-i-preserved c =
    let a = c.args in
    smallest_more (place_at a.s.now a.n) a.clock a.above c.loop-i.i c.loop-i.invariant c.better_of-best.ensures

pub returns : goal.returns
returns c =
    let e : c.loop-i.i ≡ c.args.to = omega arith in
    rw e at c.loop-i.invariant
