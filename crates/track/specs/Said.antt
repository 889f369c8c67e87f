-- RULES 19.3: what the answers say in the rules' terms: that of a step is the decoder's passed on, so messages' `said` says it; that of a question is a number, or the track that is held.
use Rattle.std.specs.Prelude.{cond, not, Result, Ok, Err, Option}
use Rattle.refusals.specs.Numbers.{number_of}
use Rattle.refusals.specs.Said.{Said, number, gives}
use Rattle.layouts.specs.Bodies.{body_fits}
use Rattle.layouts.specs.Said.{Values}
use Rattle.messages.specs.Said.{said}
use Rattle.track.specs.declared.Track.{Track}
use Rattle.track.specs.declared.Stepped.{Stepped}
use Rattle.messages.specs.declared.Message.{Message}
use Rattle.refusals.specs.declared.Refusal.{Refusal}

abbrev pub stepped_said : Stepped → Said Values
stepped_said x = said x.answer

-- what is due for a decoder's answer: its number, or its values; 8 where ME's fields do not fit
abbrev pub step_table : Result Message Refusal → Said Values
step_table (Err r) = number (number_of r)
step_table (Ok m) = cond (not (body_fits m.body)) (number 8) (said (Ok m))

-- the track of a key, or that it is not held
abbrev pub looked_said : Result (Option Track) Refusal → Said (Option Track)
looked_said (Ok v) = gives v
looked_said (Err r) = number (number_of r)
