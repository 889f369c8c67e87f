-- RULES 8.2 and 8.3: what is held of an aircraft: its track goes when it is too old, a message steps the track that it finds, and a question for it is answered with it.
use Rattle.std.specs.Prelude.{ℕ, ◌-◌, Bool, cond, ltb, Result, Ok, Err, Option, Some, None}
use Rattle.refusals.specs.declared.Refusal.{Refusal}
use Rattle.refusals.specs.declared.Refusal.TheVariants.{NoTrack}
use Rattle.layouts.specs.Bodies.{body_me}
use Rattle.messages.specs.declared.Message.{Message}
use Rattle.messages.specs.Message.{starts}
use Rattle.whereabouts.specs.declared.Site.{Site}
use Rattle.track.specs.declared.Track.{Track}
use Rattle.track.specs.Track.{new_track, step_body}

-- a track goes when clock minus last heard is 125,000 or more; a time after the clock has age 0
abbrev pub in_date : ℕ → ℕ → Bool
in_date clock heard = ltb (clock - heard) 125000

-- what a later clock leaves of a track
abbrev pub later_at : ℕ → Option Track → Option Track
later_at clock None = None
later_at clock (Some t) = cond (in_date clock t.heard) (Some t) None

-- the track that a message finds: the one held, or a new one if it may start one
abbrev pub found : Message → Option Track → Option Track
found m None = cond (starts m) (Some new_track) None
found m (Some t) = Some t

-- what becomes of it, and what is answered: it is stepped, and where there is none it is 12
abbrev pub stepped_from : Message → Site → ℕ → Option Track → Option Track
stepped_from m site time None = None
stepped_from m site time (Some t) = Some (step_body t m.body (body_me m.body) site time)

abbrev pub answered_from : Message → Option Track → Result Message Refusal
answered_from m None = Err NoTrack
answered_from m (Some t) = Ok m

-- the track in what a question for it is answered; where there is none, one that has heard nothing
abbrev pub track_or_new : Result (Option Track) Refusal → Track
track_or_new (Ok (Some t)) = t
track_or_new (Ok None) = new_track
track_or_new (Err r) = new_track
