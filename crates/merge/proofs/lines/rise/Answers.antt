-- `merge::lines::rise` meets its contract: the lines passed rise, so all do if the rest does above the last of them.
use borrow.Author.Rules.{rules}
use Prim.Native.Nat.{ℕ}
use mathlib.Core.Path.{refl, sym, ap, ◌∙◌}
use native.Mathlib.Omega.{arith}
use borrow.Author.Tests.{not-true, not-false}
use Rattle.form.specs.Scan.{lines_from}
use Rattle.merge.specs.Merged.{in_order, rising}
use Rattle.merge.proofs.Walking.{nothing_left, line_left, rises_end, rises_not, rises_on}
use Rattle.merge.proofs.lines.rise.Goals as goal

pub loop-line-init : goal.loop-line-init
loop-line-init c = (search rules, search rules, refl)

pub next_line-line-requires : goal.next_line-line-requires
next_line-line-requires c = (omega arith, omega arith)

pub returns-then-not-line : goal.returns-then-not-line
returns-then-not-line c =
    rises_end c.loop-line.last (nothing_left c.next_line-line.ensures (not-true _ c.if-not-line.true)) ∙ sym c.loop-line.invariant.2

pub returns-then-line-last : goal.returns-then-line-last
returns-then-line-last c =
    let t = line_left c.next_line-line.ensures (not-false _ c.if-not-line.false) in
    rises_not c.loop-line.last t.first (omega (arith, t.key)) ∙ sym c.loop-line.invariant.2

pub loop-line-smaller : goal.loop-line-smaller
loop-line-smaller c =
    let t = line_left c.next_line-line.ensures (not-false _ c.if-not-line.false) in
    omega (arith, t.more, t.high_i, t.high_j, t.low_i, t.low_j)

pub loop-line-preserved : goal.loop-line-preserved
loop-line-preserved c =
    let t = line_left c.next_line-line.ensures (not-false _ c.if-not-line.false) in
    let a = c.args in
    let r = c.next_line-line.result in
    (t.high_i, t.high_j, c.loop-line.invariant.2 ∙ rises_on c.loop-line.last t.first (omega (arith, t.key)) ∙ ap (λ (k : ℕ). rising k (in_order (lines_from a.a.now r.i) (lines_from a.b.now r.j))) (sym t.key))
