-- `addercoil::numbers::give_message` meets its contract: by whether there is a frame.
use Rattle.std.specs.Prelude.{Result}
use mathlib.Core.Path.{refl}
use Rattle.messages.specs.Accepted.{decoded_by}
use Rattle.addercoil.specs.Messages.{message_said}
use Rattle.entries.proofs.Ways.{given_as, given_number}
use Rattle.addercoil.proofs.numbers.give_message.Goals as goal
use Rattle.messages.specs.declared.Frame.{Frame}
use Rattle.refusals.specs.declared.Refusal.{Refusal}

pub returns-in-Ok : goal.returns-in-Ok
returns-in-Ok c =
    given_as (λ (x : Result Frame Refusal). message_said (decoded_by x)) c.args.out.now c.in-Ok.is c.give_frame.ensures

pub returns-in-Err : goal.returns-in-Err
returns-in-Err c = given_number (λ (x : Result Frame Refusal). message_said (decoded_by x)) _ c.in-Err.is refl c.number.ensures
