-- `form::words::words_fit` meets its contract: the words passed are of their sorts, so all are if the rest is.
use mathlib.Core.Path.{sym, ◌∙◌}
use native.Mathlib.Omega.{arith}
use Rattle.form.proofs.Fitting.{left_first, left_short, left_stops, left_on, left_ends}
use borrow.Author.Rules.{rules}
use Rattle.form.proofs.words.words_fit.Goals as goal

pub loop-i-init : goal.loop-i-init
loop-i-init c = (search rules, search rules, left_first _ _)

pub returns-then-line-at : goal.returns-then-line-at
returns-then-line-at c =
    sym (c.loop-i.invariant.2 ∙ left_short _ _ c.loop-i.i c.loop-i.at c.loop-i-test.true c.if-line-at.true)

pub returns-then-not-word_fits : goal.returns-then-not-word_fits
returns-then-not-word_fits c =
    let line = c.args.line.now in
    let sorts = c.args.sorts.now in
    let p = c.piece_end-e.ensures in
    sym (c.loop-i.invariant.2 ∙ left_stops line sorts c.loop-i.i c.loop-i.at _ c.loop-i-test.true p (sym c.word_fits.ensures ∙ c.if-not-word_fits.true))

pub loop-i-preserved : goal.loop-i-preserved
loop-i-preserved c =
    let line = c.args.line.now in
    let sorts = c.args.sorts.now in
    let p = c.piece_end-e.ensures in
    (search rules, omega (arith, p.high), c.loop-i.invariant.2 ∙ left_on line sorts c.loop-i.i c.loop-i.at _ c.loop-i-test.true p (sym c.word_fits.ensures ∙ c.if-not-word_fits.false))

pub returns : goal.returns
returns c =
    sym (c.loop-i.invariant.2 ∙ left_ends _ _ c.loop-i.i c.loop-i.at (omega arith))
