-- `merge::head::behind` meets its contract: behind the end nothing is left.
use native.Mathlib.Omega.{arith}
use Rattle.merge.proofs.Numbers.{drop_within, drop_past}
use Rattle.merge.proofs.head.behind.Goals as goal

pub returns-then-label-s : goal.returns-then-label-s
returns-then-label-s c =
    let a = c.args in
    (omega arith, drop_within a.s.now a.from a.label)

pub returns : goal.returns
returns c =
    let a = c.args in
    (omega arith, drop_past a.s.now a.from a.label (omega arith))
