-- RULES 19.2: the lent table as a slice of places, with its head by value: the rules of any form, at the slice.
use Rattle.std.specs.Prelude.{ℕ, List, Result, Option, ⊤}
use Rattle.whereabouts.specs.declared.Site.{Site}
use Rattle.rules.specs.Rules as rules
use Rattle.slice_places.specs.declared.Place.{Place}
use Rattle.slice_places.specs.declared.Head.{Head}
use Rattle.slice_table.specs.Slice.{Slice, slice_of, slice}
use Rattle.messages.specs.declared.Message.{Message}
use Rattle.refusals.specs.declared.Refusal.{Refusal}
use Rattle.track.specs.declared.Track.{Track}
pub use Rattle.slice_table.specs.Slice.{emptied}

-- what a call answers, and the head and the places that it leaves
abbrev pub After : Type 0 → Type 0
After A = rules.After Slice A

abbrev pub after : {A : Type 0} → A → Head → List Place → After A
after a head ps = rules.after a (slice_of head ps)

abbrev pub set_up : List Place → Head → Site → After (Result ⊤ Refusal)
set_up ps head site = rules.set_up slice (slice_of head ps) site

abbrev pub received : List Place → Head → List ℕ → ℕ → After (Result Message Refusal)
received ps head message time = rules.received slice (slice_of head ps) message time

abbrev pub looked_up : List Place → Head → ℕ → Result (Option Track) Refusal
looked_up ps head key = rules.looked_up slice (slice_of head ps) key

abbrev pub next_above : List Place → Head → ℕ → Result (Option ℕ) Refusal
next_above ps head above = rules.next_above slice (slice_of head ps) above
