-- What private functions promise to each other: ME, or 8. No public contract cites this file.
use Rattle.std.specs.Prelude.{ℕ, cond, Result, Ok, Err}
use Rattle.refusals.specs.declared.Refusal.TheVariants.{Field}
use Rattle.layouts.specs.Bodies.{body_me}
use Rattle.messages.specs.declared.Message.{Message}
use Rattle.messages.specs.Message.{message_fits}
use Rattle.refusals.specs.declared.Refusal.{Refusal}

-- ME of a message that fits
abbrev pub me_of : Message → Result ℕ Refusal
me_of m = cond (message_fits m) (Ok (body_me m.body)) (Err Field)
