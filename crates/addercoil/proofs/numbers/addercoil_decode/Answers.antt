-- `addercoil::numbers::addercoil_decode` meets its contract: an array of a wrong length, or what the decoder answers of the frame.
use Rattle.std.specs.Prelude.{Result}
use mathlib.Core.Path.{sym, ap, ◌∙◌}
use Rattle.messages.specs.Accepted.{decoded_by}
use Rattle.messages.specs.Message.{decoded}
use Rattle.messages.proofs.Acceptance.{frame_says_lem}
use Rattle.entries.specs.Sent.{given}
use Rattle.addercoil.specs.Messages.{message_said}
use Rattle.entries.proofs.Ways.{into_wrong, into_given}
use Rattle.addercoil.proofs.numbers.addercoil_decode.Goals as goal
use Rattle.messages.specs.declared.Message.{Message}
use Rattle.refusals.specs.declared.Refusal.{Refusal}

pub returns-then-fields-ne-ROW : goal.returns-then-fields-ne-ROW
returns-then-fields-ne-ROW c = into_wrong 28 _ _ c.if-fields-ne-ROW.true

pub returns : goal.returns
returns c =
    let a = c.args in
    let out = a.fields.now in
    into_given 28 out (message_said (decoded a.message.now)) c.if-fields-ne-ROW.false
    (c.give_message.ensures ∙ ap (λ (x : Result Message Refusal). given out (message_said x)) (ap decoded_by c.frame_in.ensures ∙ sym (frame_says_lem a.message.now)))
