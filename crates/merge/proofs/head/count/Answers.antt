-- `merge::head::count` meets its contract: the lines passed are counted, and each has a byte at least.
use borrow.Author.Rules.{rules}
use mathlib.Core.Path.{ap}
use native.Mathlib.Omega.{arith}
use lib.ListN.{length}
use Rattle.form.proofs.Walking.{no_line, some_line}
use Rattle.merge.proofs.head.count.Goals as goal

pub loop-from-init : goal.loop-from-init
loop-from-init c = (search rules, omega arith, omega arith)

pub returns-then-end-eq0 : goal.returns-then-end-eq0
returns-then-end-eq0 c =
    let z = ap length (no_line _ c.loop-from.at c.line_end-end.ensures.next_line c.if-end-eq0.true) in
    (omega (arith, z, c.loop-from.invariant.2), omega arith)

pub overflow_add-n : goal.overflow_add-n
overflow_add-n c =
    let p = some_line _ _ c.line_end-end.ensures.next_line c.if-end-eq0.false in
    omega (arith, p.low, p.high)

pub loop-from-smaller : goal.loop-from-smaller
loop-from-smaller c =
    let p = some_line _ _ c.line_end-end.ensures.next_line c.if-end-eq0.false in
    omega (arith, p.low, p.high)

pub loop-from-preserved : goal.loop-from-preserved
loop-from-preserved c =
    let p = some_line _ _ c.line_end-end.ensures.next_line c.if-end-eq0.false in
    let z = ap length p.first in
    (p.high, omega (arith, p.low), omega (arith, z, c.loop-from.invariant.2))
