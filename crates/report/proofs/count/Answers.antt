-- `report::count` meets its contract: the places that the loop has passed and that have a row are counted.
use Prim.Native.Nat.{ℕ}
use native.Mathlib.Omega.{arith}
use mathlib.Core.Bool.{Bool}
use mathlib.Core.Path.{◌≡◌, refl, ◌∙◌}
use borrow.Author.Rules.{rules}
use Rattle.report.specs.Code.{has_row}
use Rattle.report.proofs.Counted.{counted_yes, counted_no, counted_all}
use Rattle.report.proofs.count.Goals as goal
use Rattle.report.proofs.count.Goals.{then-has_row, else-has_row}

pub loop-i-init : goal.loop-i-init
loop-i-init c = (search rules, refl)

pub loop-i-preserved : goal.loop-i-preserved
loop-i-preserved c =
    let a = c.args in
    let has : ℕ → Bool = λ j. has_row a.all c.clock_of-clock.result a.table.now c.places_in-n.result j in
    elim c.if-has_row.branch [
      | then-has_row w ↦ (omega arith, w.rows-is ∙ counted_yes has c.loop-i.i c.loop-i.invariant.1 c.has_row.ensures w.if-has_row.true)
      | else-has_row w ↦ (omega arith, w.rows-is ∙ counted_no has c.loop-i.i c.loop-i.invariant.1 c.has_row.ensures w.if-has_row.false)
    ]

pub returns : goal.returns
returns c =
    let a = c.args in
    let e : c.loop-i.i ≡ c.places_in-n.result = omega arith in
    counted_all a.all a.table.now c.places_in-n.ensures.0 c.clock_of-clock.ensures e c.loop-i.invariant.1
