-- RULES 9.5: what a message that arrives earns, and what it puts at its place: decided by value for the functions that touch the slice.
use Rattle.std.specs.Prelude.{ℕ, Bool, false, cond, not, List, eqb, ltb, length, Result, Ok, Err}
use Rattle.refusals.specs.declared.Refusal.{Refusal}
use Rattle.refusals.specs.declared.Refusal.TheVariants.{Length, Late, Places}
use Rattle.messages.specs.Message.{decoded, key_of, starts}
use Rattle.track.specs.declared.Stepped.{Stepped}
use Rattle.track.specs.declared.Track.{Track}
use Rattle.track.specs.Track.{new_track, stepped}
use Rattle.rules.specs.Rules.{turned_away}
use Rattle.slice_places.specs.declared.Place.{Place}
use Rattle.slice_places.specs.declared.Head.{Head}
use Rattle.slice_places.specs.declared.Sought.{Sought}
use Rattle.slice_places.specs.Ranges.{meaning_of, holds}
use Rattle.slice_places.specs.Head.{places_fit, moved, site_of}
use Rattle.slice_places.specs.declared.arrivals.Received.{Received}
use Rattle.slice_places.specs.declared.arrivals.Renewal.{Renewal}
use Rattle.messages.specs.declared.Message.{Message}

abbrev pub refused_with : Refusal → Head → Received
refused_with r head = record { answer = Err r; head = head }

-- 1, 7, 2, and then what the decoder says, with the clock moved
unfoldable pub judged : ℕ → Head → List ℕ → ℕ → Received
judged n head message time =
    cond (not (eqb (length message) 14)) (refused_with Length head)
    (cond (not (places_fit n)) (refused_with Places head)
    (cond (ltb time head.clock) (refused_with Late head)
    (record { answer = decoded message; head = moved head time })))

-- 0 of a refusal, which is no key
abbrev pub key_in : Result Message Refusal → ℕ
key_in (Err r) = 0
key_in (Ok m) = key_of m

-- a refusal starts no track
abbrev pub starts_in : Result Message Refusal → Bool
starts_in (Err r) = false
starts_in (Ok m) = starts m

-- the track that a place holds at the clock with the key, or a new one
unfoldable pub track_in : Sought → Place → Track
track_in s p = cond (holds s.clock s.key p) (meaning_of p) new_track

-- the key of what is due at its clock, and a free place if it starts a track
abbrev pub sought_by : Received → Sought
sought_by due = record { clock = due.head.clock; key = key_in due.answer; starts = starts_in due.answer }

abbrev pub next_from : Head → ℕ → Stepped → Renewal
next_from head key t = record { received = record { answer = t.answer; head = head }; place = record { key = key; track = t.track } }

-- the step of the place that was chosen
unfoldable pub next_of : Received → Place → Renewal
next_of due p = next_from due.head (key_in due.answer) (stepped (track_in (sought_by due) p) due.answer (site_of due.head) due.head.clock)

-- where no place was chosen: 6, or 12
abbrev pub turned_away_by : Received → Received
turned_away_by due = refused_with (turned_away (starts_in due.answer)) due.head
