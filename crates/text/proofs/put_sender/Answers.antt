-- `text::put_sender` meets its contract: nothing, or two texts, one after the other.
use mathlib.Core.Path.{sym, ap, ◌∙◌}
use Rattle.text.specs.Lines.{space, field, sender_text}
use Rattle.text.proofs.Buffer.{wrote_none, wrote_then, wrote_as}
use Rattle.text.proofs.put_sender.Goals as goal

pub returns-then-not-coarse_in : goal.returns-then-not-coarse_in
unfolding sender_text
returns-then-not-coarse_in c = rw (sym c.coarse_in.ensures ∙ c.if-not-coarse_in.true) (wrote_none _ _)

pub returns : goal.returns
unfolding sender_text
returns c =
    let f = wrote_as c.put_number-a.ensures.wrote (ap (field space) c.flag_in.ensures) in
    let s = wrote_as c.put_number.ensures.wrote (ap (field space) c.station_in.ensures) in
    rw (sym c.coarse_in.ensures ∙ c.if-not-coarse_in.false) (wrote_then f s)
