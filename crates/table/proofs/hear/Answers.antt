-- `table::hear` meets its contract: its ways out are those of a received message, with the answer cut to done or a number.
use Rattle.std.specs.Prelude.{Ok, Err}
use mathlib.Core.Bool.{not}
use mathlib.Core.Path.{◌≡◌, refl, sym, ap, ◌∙◌}
use Rattle.std.proofs.lemmas.Result.{err_from_is_err_and}
use Rattle.messages.specs.Accepted.{accepted, opened_as}
use Rattle.messages.proofs.Acceptance.{accepted_opened}
use Rattle.memory.proofs.Counts.{whole_head}
use Rattle.table_bytes.proofs.Parts.{whole}
use Rattle.table_bytes.proofs.Places.{moved_length}
use Rattle.table.specs.Heard.{heard}
use Rattle.table.proofs.Answers.{deliver_refused, receive_length, receive_size, receive_late, receive_on}
use Rattle.table.proofs.hear.Goals as goal

pub returns-then-message-ne14 : goal.returns-then-message-ne14
returns-then-message-ne14 c = ap heard (receive_length _ _ _ c.if-message-ne14.true)

pub returns-then-not-whole_places : goal.returns-then-not-whole_places
returns-then-not-whole_places c = ap heard (receive_size _ _ _ c.if-message-ne14.false c.whole_places.ensures (ap not c.if-not-whole_places.true))

pub clock_of-requires : goal.clock_of-requires
clock_of-requires c = whole_head _ (whole _ c.whole_places.ensures (ap not c.if-not-whole_places.false))

pub returns-then-time-clock_of : goal.returns-then-time-clock_of
returns-then-time-clock_of c = ap heard (receive_late _ _ _ c.if-message-ne14.false c.whole_places.ensures (ap not c.if-not-whole_places.false) c.clock_of.ensures c.if-time-clock_of.true)

pub move_clock-requires : goal.move_clock-requires
move_clock-requires c = whole_head _ (whole _ c.whole_places.ensures (ap not c.if-not-whole_places.false))

pub deliver-requires : goal.deliver-requires
deliver-requires c = (
  rw (c.move_clock.ensures, moved_length) (whole _ c.whole_places.ensures (ap not c.if-not-whole_places.false)),
  (c.args.message.now, sym c.accept.ensures ∙ c.in_ok-f.was),
)

pub returns : goal.returns
returns c =
    let m = c.args.message.now in
    let e : accepted m ≡ Ok _ = sym c.accept.ensures ∙ c.in_ok-f.was in
    c.deliver.ensures
    ∙ ap heard (receive_on _ m _ c.if-message-ne14.false c.whole_places.ensures (ap not c.if-not-whole_places.false) c.clock_of.ensures c.if-time-clock_of.false c.move_clock.ensures (sym (accepted_opened m ∙ ap opened_as e)) refl)

pub returns-in_err-f : goal.returns-in_err-f
returns-in_err-f c =
    let m = c.args.message.now in
    let e : accepted m ≡ Err _ = sym c.accept.ensures ∙ c.in_err-f.was in
    let p = err_from_is_err_and c.from_residual.result c.from_residual.ensures.1 in
    rw (p.1, p.2)
    (ap heard (receive_on _ m _ c.if-message-ne14.false c.whole_places.ensures (ap not c.if-not-whole_places.false) c.clock_of.ensures c.if-time-clock_of.false c.move_clock.ensures (sym (accepted_opened m ∙ ap opened_as e)) (deliver_refused _ _ _ refl)))
