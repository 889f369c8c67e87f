-- `encoder::encode` meets its contract: its tests are the definition's, and only the last way writes.
use Rattle.std.proofs.Common.{sym, ◌∙◌, eq-eqb}
use Rattle.std.proofs.lemmas.Result.{err_from_is_err_and}
use Rattle.layouts.specs.Bodies.{body_me}
use Rattle.layouts.proofs.BothWays.{if_written, if_refused}
use Rattle.messages.specs.Message.{message_fits}
use Rattle.encoder.proofs.encode.Goals as goal

pub returns-in_err-me : goal.returns-in_err-me
returns-in_err-me c =
    let m = c.args.m in
    let p = err_from_is_err_and c.from_residual.result c.from_residual.ensures.1 in
    let g = if_refused (message_fits m) (body_me m.body) c.in_err-me.field-0.0 (sym c.me_of.ensures ∙ c.in_err-me.was) in
    let e = eq-eqb _ _ c.if-out-ne14.false in
    (rw (p.1, p.2, e, g.0, g.1), rw (e, g.0))

pub returns : goal.returns
returns c =
    let m = c.args.m in
    let g = if_written (message_fits m) (body_me m.body) c.in_ok-me.me (sym c.me_of.ensures ∙ c.in_ok-me.was) in
    let e = eq-eqb _ _ c.if-out-ne14.false in
    (rw (e, g.0), rw (e, g.0) (c.fill.ensures ∙ cc (c.head_of.ensures, g.1)))
