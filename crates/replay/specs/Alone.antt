-- RULES 13.2: what an aircraft sees alone: the times at which messages come and its own messages are all that is asked for.
use Rattle.std.specs.Prelude.{ℕ, cond, List, eqb, ltb, Result, Ok, Err, Option, Some, None}
use Rattle.messages.specs.declared.Message.{Message}
use Rattle.messages.specs.Message.{decoded, key_of}
use Rattle.whereabouts.specs.declared.Site.{Site}
use Rattle.track.specs.declared.Track.{Track}
use Rattle.track.specs.Held.{later_at, found, stepped_from}
use Rattle.refusals.specs.declared.Refusal.{Refusal}
use Rattle.replay.specs.declared.Own.{Own}

-- what it hears of a message that comes at a time: the time, and the message if that is its own
pub record Heard : Type 0 where
  pub time : ℕ
  pub message : Option Message

abbrev pub own_in : ℕ → Result Message Refusal → Option Message
own_in key (Ok m) = cond (eqb (key_of m) key) (Some m) None
own_in key (Err r) = None

unfoldable pub heard_in : ℕ → List ℕ → ℕ → Heard
heard_in key message time = record { time = time; message = own_in key (decoded message) }

-- its message steps the track that it finds, another's leaves it
abbrev pub told_of : Site → ℕ → Option Message → Option Track → Option Track
told_of site time None t = t
told_of site time (Some m) t = stepped_from m site time (found m t)

-- by then a track that is too old has gone
abbrev pub track_after : Site → Option Track → ℕ → Option Message → Option Track
track_after site t time m = told_of site time m (later_at time t)

-- a late message changes nothing
unfoldable pub own_after : Site → Own → Heard → Own
own_after site o h = cond (ltb h.time o.clock) o (record { clock = h.time; track = track_after site o.track h.time h.message })
