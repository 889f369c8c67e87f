-- `whole::lines::count` meets its contract: of the entries that the loop has passed those that are shown are counted.
use Prim.Native.Nat.{ℕ, ◌<◌}
use native.Mathlib.Omega.{arith}
use mathlib.Core.Path.{◌≡◌, ap, ◌∙◌}
use lib.ListN.{length, take}
use borrow.Author.Rules.{rules}
use Rattle.whole.specs.Code.{rows_at}
use Rattle.whole.proofs.Steps.{counted_start, counted_yes, counted_no}
use Rattle.whole.proofs.lines.count.Goals as goal
use Rattle.whole.proofs.lines.count.Goals.{then-is_shown, else-is_shown}

pub loop-j-init : goal.loop-j-init
loop-j-init c = (search rules, search rules, let a = c.args in counted_start a.all a.table.now a.n a.order.now)

pub is_shown-requires : goal.is_shown-requires
is_shown-requires c =
    let p = c.requires in
    (p.1.each c.loop-j.j (omega arith), p.0)

pub loop-j-preserved : goal.loop-j-preserved
loop-j-preserved c =
    let a = c.args in
    let in_range_lem : c.loop-j.j < length a.order.now = omega (arith, c.requires.1.many) in
    elim c.if-is_shown.branch [
      | then-is_shown w ↦ (search rules, omega arith, w.rows-is ∙ counted_yes a.all a.table.now a.n a.order.now c.loop-j.j in_range_lem c.loop-j.invariant.2 c.is_shown.ensures w.if-is_shown.true)
      | else-is_shown w ↦ (search rules, omega arith, w.rows-is ∙ counted_no a.all a.table.now a.n a.order.now c.loop-j.j in_range_lem c.loop-j.invariant.2 c.is_shown.ensures w.if-is_shown.false)
    ]

pub returns : goal.returns
returns c =
    let a = c.args in
    let e : c.loop-j.j ≡ a.k = omega arith in
    c.loop-j.invariant.2 ∙ ap (λ (i : ℕ). length (rows_at a.all a.table.now a.n (take i a.order.now))) e
