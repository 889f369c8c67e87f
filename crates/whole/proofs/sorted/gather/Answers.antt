-- `whole::sorted::gather` meets its contract: the entries of the places that the loop has passed stand at the front.
use Prim.Native.Nat.{ℕ, ◌<◌}
use native.Mathlib.Omega.{arith}
use mathlib.Core.Path.{◌≡◌, ap, ◌∙◌}
use lib.ListN.{length, length-set}
use borrow.Author.Rules.{rules}
use Rattle.order.specs.Sorted.{over}
use Rattle.whole.specs.Whole.{entries_of}
use Rattle.whole.proofs.Steps.{gathered_start, gathered_one, gathered_none}
use Rattle.whole.proofs.sorted.gather.Goals as goal
use Rattle.whole.proofs.sorted.gather.Goals.{then-is_held, else-is_held}

pub loop-i-init : goal.loop-i-init
loop-i-init c =
    let a = c.args in
    let g = gathered_start a.table.now a.order.now in
    (search rules, search rules, search rules, g.0, g.1)

pub loop-i-preserved : goal.loop-i-preserved
loop-i-preserved c =
    let a = c.args in
    let clock = c.clock_of-clock.ensures in
    let key = c.get4-key.ensures in
    let body = c.body.ensures.0 in
    let held = c.is_held.ensures in
    let room : c.loop-i.k < length a.order.now = omega (arith, c.requires.2) in
    elim c.if-is_held.branch [
      | then-is_held w ↦
          let g = gathered_one a.table.now c.loop-i.i c.requires.0 clock key body held a.order.now c.loop-i.invariant.3 c.loop-i.invariant.4 w.if-is_held.true room in
          (search rules, omega arith, ap length w.order-is ∙ simp length-set c.loop-i.invariant.2, w.k-is ∙ g.0, w.order-is ∙ g.1)
      | else-is_held w ↦
          let g = gathered_none a.table.now c.loop-i.i c.requires.0 clock key body held a.order.now c.loop-i.invariant.3 c.loop-i.invariant.4 w.if-is_held.false in
          (search rules, omega arith, ap length w.order-is ∙ c.loop-i.invariant.2, w.k-is ∙ g.0, w.order-is ∙ g.1)
    ]

pub returns : goal.returns
returns c =
    let a = c.args in
    let e : c.loop-i.i ≡ a.n = omega arith in
    (c.loop-i.invariant.4 ∙ ap (λ (j : ℕ). over (entries_of a.table.now j) a.order.now) e, c.loop-i.invariant.3 ∙ ap (λ (j : ℕ). length (entries_of a.table.now j)) e)
