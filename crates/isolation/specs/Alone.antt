-- RULES 1.4: what an aircraft would see of a run if it were alone: what it hears of each call is all that is asked for.
use Rattle.std.specs.Prelude.{ℕ, Bool, cond, List, [], ◌∷◌, ltb, Result, Err, Option, Some, None}
use Rattle.refusals.specs.declared.Refusal.TheVariants.{Late}
use Rattle.messages.specs.declared.Message.{Message}
use Rattle.whereabouts.specs.declared.Site.{Site}
use Rattle.track.specs.declared.Track.{Track}
use Rattle.track.specs.Held.{later_at, found, answered_from}
use Rattle.replay.specs.Alone.{Heard, heard_in, own_after}
use Rattle.replay.specs.declared.Own.{Own}
use Rattle.rules.specs.Form.{Form}
use Rattle.rules.specs.View.{view}
use Rattle.isolation.specs.Runs.{Call, Seen}
use Rattle.refusals.specs.declared.Refusal.{Refusal}

-- what it hears of a call, and of a run
abbrev pub heard_by : ℕ → Call → Heard
heard_by key c = heard_in key c.message c.time

abbrev pub heard_of : ℕ → List Call → List Heard
heard_of key [] = []
heard_of key (c ∷ cs) = heard_by key c ∷ heard_of key cs

-- the clock of a table, and its track there
abbrev pub own_of : {S : Type 0} → Form S → S → ℕ → Own
own_of F s key = record { clock = F.clock s; track = view F s key }

abbrev pub answer_to : Bool → Option Track → ℕ → Option Message → Option (Result Message Refusal)
answer_to late t time None = None
answer_to late t time (Some m) = Some (cond late (Err Late) (answered_from m (found m (later_at time t))))

abbrev pub saw_alone : Site → Own → Heard → Seen
saw_alone site o h = record { answer = answer_to (ltb h.time o.clock) o.track h.time h.message; track = (own_after site o h).track }

abbrev pub seen_alone : Site → Own → List Heard → List Seen
seen_alone site o [] = []
seen_alone site o (h ∷ hs) = saw_alone site o h ∷ seen_alone site (own_after site o h) hs

-- what is left at its end
abbrev pub left_alone : Site → Own → List Heard → Own
left_alone site o [] = o
left_alone site o (h ∷ hs) = left_alone site (own_after site o h) hs
