-- `form::in_form` meets its contract: the lines passed are in the form, so the text is if the rest is.
use Prim.Native.Nat.{◌+◌}
use mathlib.Core.Path.{sym, ap, ◌∙◌}
use mathlib.Core.Bool.{Bool, ◌&&◌}
use native.Mathlib.Omega.{arith}
use Rattle.form.specs.Scan.{part}
use Rattle.form.proofs.Fitting.{header_fits, body, header_cut, body_cut, body_ends}
use Rattle.form.proofs.in_form.Goals as goal

pub returns-then-not-words_fit : goal.returns-then-not-words_fit
returns-then-not-words_fit c =
    let s = c.args.s.now in
    let p = c.piece_end-h.ensures in
    let h = c.piece_end-h.result in
    let w = c.words_fit.ensures ∙ header_fits (part 0 h s) in
    sym (header_cut s h p ∙ ap (λ (t : Bool). t && body s (h + 1)) (sym w ∙ c.if-not-words_fit.true))

pub loop-at-init : goal.loop-at-init
loop-at-init c =
    let s = c.args.s.now in
    let p = c.piece_end-h.ensures in
    let h = c.piece_end-h.result in
    let w = c.words_fit.ensures ∙ header_fits (part 0 h s) in
    (omega (arith, p.high), header_cut s h p ∙ ap (λ (t : Bool). t && body s (h + 1)) (sym w ∙ c.if-not-words_fit.false))

pub returns-then-not-line_fits : goal.returns-then-not-line_fits
returns-then-not-line_fits c =
    let s = c.args.s.now in
    let p = c.piece_end-e.ensures in
    let e = c.piece_end-e.result in
    let w = c.line_fits.ensures in
    sym (c.loop-at.invariant.1 ∙ body_cut s c.loop-at.at e c.loop-at-test.true p ∙ ap (λ (t : Bool). t && body s (e + 1)) (sym w ∙ c.if-not-line_fits.true))

pub loop-at-smaller : goal.loop-at-smaller
loop-at-smaller c = omega (arith, c.piece_end-e.ensures.low, c.piece_end-e.ensures.high)

pub loop-at-preserved : goal.loop-at-preserved
loop-at-preserved c =
    let s = c.args.s.now in
    let p = c.piece_end-e.ensures in
    let e = c.piece_end-e.result in
    let w = c.line_fits.ensures in
    (omega (arith, p.high), c.loop-at.invariant.1 ∙ body_cut s c.loop-at.at e c.loop-at-test.true p ∙ ap (λ (t : Bool). t && body s (e + 1)) (sym w ∙ c.if-not-line_fits.false))

pub returns : goal.returns
returns c =
    sym (c.loop-at.invariant.1 ∙ body_ends _ c.loop-at.at (omega arith))
