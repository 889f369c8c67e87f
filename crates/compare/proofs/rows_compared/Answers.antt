-- `compare::rows_compared` meets its contract: the lines passed agree with the rows passed, so the answer is that of the rest.
use Prim.Native.Nat.{ℕ, ◌+◌}
use mathlib.Core.Path.{◌≡◌, refl, sym, ap, ◌∙◌}
use mathlib.Core.Bool.{true, false}
use mathlib.Core.List.{List, ◌++◌}
use native.Mathlib.Omega.{arith}
use Rattle.text.specs.Lines.{newline}
use Rattle.form.specs.Scan.{lines_from}
use Rattle.form.proofs.Walking.{no_line, some_line}
use Rattle.agree.specs.Near.{agrees_of}
use Rattle.compare.specs.Compared.{compared}
use Rattle.compare.proofs.Walking.{next_key, first_key, left_end, left_row, both_end, missing, surplus, differs, goes_on}
use borrow.Author.Rules.{rules}
use Rattle.compare.proofs.rows_compared.Goals as goal

pub loop-key-init : goal.loop-key-init
loop-key-init c =
    let s = c.args.table.now in
    let p = next_key s c.requires.0 0 (omega arith) c.key_above-key.ensures in
    (p.most, omega (arith, p.low), search rules, p.held, ap (compared 2 (lines_from c.args.theirs.now c.args.from)) (first_key s c.requires.0 p))

-- their lines have ended, and ours have not
pub returns-then-end-eq0 : goal.returns-then-end-eq0
returns-then-end-eq0 c =
    let in-loop = c.loop-key-test.true in
    sym (c.loop-key.invariant.4 ∙ sym (missing c.loop-key.n (no_line _ c.loop-key.at c.line_end-end.ensures.next_line c.if-end-eq0.true) (left_row _ c.requires.0 c.loop-key.key in-loop (c.loop-key.invariant.3 in-loop) refl)))

pub slice_bounds-agrees-count : goal.slice_bounds-agrees-count
slice_bounds-agrees-count c =
    let p = some_line _ _ c.line_end-end.ensures.next_line c.if-end-eq0.false in
    omega (arith, p.low, p.high)

pub slice_bounds-agrees-start : goal.slice_bounds-agrees-start
slice_bounds-agrees-start c =
    let p = some_line _ _ c.line_end-end.ensures.next_line c.if-end-eq0.false in
    omega (arith, p.low, p.high)

pub slice_bounds-agrees-end : goal.slice_bounds-agrees-end
slice_bounds-agrees-end c =
    let p = some_line _ _ c.line_end-end.ensures.next_line c.if-end-eq0.false in
    omega (arith, p.low, p.high)

pub returns-then-not-agrees : goal.returns-then-not-agrees
returns-then-not-agrees c =
    let in-loop = c.loop-key-test.true in
    let p = some_line _ _ c.line_end-end.ensures.next_line c.if-end-eq0.false in
    let q = left_row _ c.requires.0 c.loop-key.key in-loop (c.loop-key.invariant.3 in-loop) c.row_in-row.ensures in
    let d : agrees_of (p.line ++ newline) c.row_in-row.result ≡ false = ap (λ (t : List ℕ). agrees_of t c.row_in-row.result) p.text ∙ sym c.agrees.ensures ∙ c.if-not-agrees.true in
    sym (c.loop-key.invariant.4 ∙ sym (differs c.loop-key.n p.first q d))

pub loop-key-smaller : goal.loop-key-smaller
loop-key-smaller c =
    let k = next_key _ c.requires.0 _ c.loop-key-test.true c.key_above-key-in-loop-key.ensures in
    omega (arith, k.low, k.most)

pub loop-key-preserved : goal.loop-key-preserved
loop-key-preserved c =
    let in-loop = c.loop-key-test.true in
    let p = some_line _ _ c.line_end-end.ensures.next_line c.if-end-eq0.false in
    let q = left_row _ c.requires.0 c.loop-key.key in-loop (c.loop-key.invariant.3 in-loop) c.row_in-row.ensures in
    let k = next_key _ c.requires.0 _ c.loop-key-test.true c.key_above-key-in-loop-key.ensures in
    let d : agrees_of (p.line ++ newline) c.row_in-row.result ≡ true = ap (λ (t : List ℕ). agrees_of t c.row_in-row.result) p.text ∙ sym c.agrees.ensures ∙ c.if-not-agrees.false in (
      k.most,
      omega (arith, k.low, c.loop-key.invariant.1),
      p.high,
      k.held,
      c.loop-key.invariant.4 ∙ goes_on c.loop-key.n p.first q d ∙ ap (compared (c.loop-key.n + 1) (lines_from c.args.theirs.now c.line_end-end.result)) k.rows,
    )

pub returns-then-line_end-eq0 : goal.returns-then-line_end-eq0
returns-then-line_end-eq0 c =
    sym (c.loop-key.invariant.4 ∙ sym (both_end c.loop-key.n (no_line _ c.loop-key.at c.line_end.ensures.next_line c.if-line_end-eq0.true) (left_end _ c.loop-key.key (omega arith))))

-- .. ours have ended, and theirs have not
pub returns : goal.returns
returns c =
    let p = some_line _ _ c.line_end.ensures.next_line c.if-line_end-eq0.false in
    sym (c.loop-key.invariant.4 ∙ sym (surplus c.loop-key.n p.first (left_end _ c.loop-key.key (omega arith))))
