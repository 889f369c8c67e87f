-- `rows::back::layout_with` meets its contract: its test is the definition's.
use mathlib.Core.Path.{sym, ap, ◌∙◌}
use mathlib.Core.Bool.{Bool}
use borrow.Author.Tests.{eq-eqb, ne_eqb}
use Rattle.messages.specs.Message.{coarse_by}
use Rattle.layouts.specs.Bodies.{layout_by, taken_by}
use Rattle.rows.specs.Rows.{layout_number}
use Rattle.rows.specs.From.{message_with, layout_with}
use Rattle.rows.proofs.back.layout_with.Goals as goal

pub returns-then-number_of-number : goal.returns-then-number_of-number
unfolding layout_with
returns-then-number_of-number c =
    let a = c.args in
    let e = c.number_of.ensures ∙ ap layout_number (c.layout_by.ensures ∙ ap (λ (t : Bool). layout_by t a.me) c.coarse_by-coarse.ensures) in
    rw (ne_eqb (layout_number (layout_by (coarse_by a.format a.control) a.me)) a.number (λ z. c.if-number_of-number.true (e ∙ z)))

pub returns : goal.returns
unfolding layout_with
returns c =
    let a = c.args in
    let e = c.number_of.ensures ∙ ap layout_number (c.layout_by.ensures ∙ ap (λ (t : Bool). layout_by t a.me) c.coarse_by-coarse.ensures) in
    rw (eq-eqb (layout_number (layout_by (coarse_by a.format a.control) a.me)) a.number (sym e ∙ c.if-number_of-number.false))
    (c.message_with.ensures ∙ ap (message_with a.format a.control a.address) (c.body_by.ensures ∙ ap (λ (t : Bool). taken_by t a.me) c.coarse_by-coarse.ensures))
