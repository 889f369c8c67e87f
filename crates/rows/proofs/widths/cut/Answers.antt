-- `rows::widths::cut` meets its contract: what the loop has passed is cut, and the bits below are those of the widths behind.
use mathlib.Core.Path.{refl, sym}
use native.Mathlib.Omega.{arith}
use lib.ListN.{length-set}
use Rattle.rows.proofs.Cutting.{width_below, below_next, cut_next, cut_whole}
use Rattle.rows.proofs.widths.cut.Goals as goal

pub loop-i-init : goal.loop-i-init
loop-i-init c = (omega arith, sym c.requires.1, omega arith, refl, refl)

pub overflow_sub-below : goal.overflow_sub-below
overflow_sub-below c =
    width_below c.args.widths.now 0 c.loop-i.i c.loop-i.below c.from-width.result 0 c.loop-i.out c.loop-i-test.true c.from-width.ensures c.loop-i.invariant.1

pub field_at-requires : goal.field_at-requires
field_at-requires c =
    let w = width_below c.args.widths.now 0 c.loop-i.i c.loop-i.below c.from-width.result 0 c.loop-i.out c.loop-i-test.true c.from-width.ensures c.loop-i.invariant.1 in
    (omega (arith, c.loop-i.invariant.2), omega (arith, c.loop-i.invariant.2))

pub bounds-out-i : goal.bounds-out-i
bounds-out-i c = omega (arith, c.requires.0, c.loop-i-test.true)

pub loop-i-smaller : goal.loop-i-smaller
loop-i-smaller c = omega (arith, c.loop-i-test.true)

pub loop-i-preserved : goal.loop-i-preserved
loop-i-preserved c =
    let a = c.args in
    let h = c.loop-i-test.true in (
      omega (arith, h),
      below_next a.widths.now a.me c.loop-i.i c.loop-i.below c.from-width.result c.field_at.result c.loop-i.out h c.from-width.ensures c.loop-i.invariant.1,
      omega (arith, c.loop-i.invariant.2),
      simp length-set c.loop-i.invariant.3,
      cut_next a.widths.now a.me c.loop-i.i c.loop-i.below c.from-width.result c.field_at.result c.loop-i.out h c.from-width.ensures c.loop-i.invariant.1
          (omega (arith, c.requires.0, h)) c.field_at.ensures c.loop-i.invariant.4,
    )

pub returns : goal.returns
returns c =
    let a = c.args in
    cut_whole a.widths.now a.me c.loop-i.i c.loop-i.out (omega (arith, c.loop-i-test.false, c.loop-i.invariant.0)) c.loop-i.invariant.4
