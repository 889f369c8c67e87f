-- `table_bytes::walk::smallest_above` meets its contract: the best so far is the smallest of the places that the loop has passed, and 8 keys that are no better leave it as it is.
use mathlib.Core.Bool.{not}
use Prim.Native.Nat.{◌-◌}
use mathlib.Core.Path.{refl, ◌∙◌, ap}
use borrow.Author.Rules.{rules}
use Rattle.table_bytes.proofs.Scanned.{none_better_8}
use Rattle.table_bytes.proofs.walk.smallest_above.Goals as goal
use Rattle.table_bytes.proofs.walk.smallest_above.Goals.{then-not-none_better_8, else-not-none_better_8}

pub loop-i-init : goal.loop-i-init
loop-i-init c = (search rules, refl)

pub best_to-best-requires : goal.best_to-best-requires
best_to-best-requires c = (search rules, search rules, search rules, c.loop-i.invariant.1)

pub loop-i-preserved : goal.loop-i-preserved
loop-i-preserved c =
    let a = c.args in
    let kept = none_better_8 a.s.now a.n a.clock a.above c.loop-i.i c.loop-i.invariant.1 c.none_better_8.ensures in
    (search rules, elim c.if-not-none_better_8.branch [ then-not-none_better_8 w ↦ w.best-is ∙ w.best_to-best.ensures | else-not-none_better_8 w ↦ w.best-is ∙ kept (ap not w.if-not-none_better_8.false) ])

pub best_to-requires : goal.best_to-requires
best_to-requires c = (search rules, search rules, search rules, c.loop-i.invariant.1)

pub returns : goal.returns
returns c = c.best_to.ensures
