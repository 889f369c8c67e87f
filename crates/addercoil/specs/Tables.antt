-- RULES 20.6 and 20.8: the lent table for another language: each answer as a number of RULES 3.2, or as values.
use Rattle.std.specs.Prelude.{ℕ, cond, ◌&&◌, List, [], ◌∷◌, leb, Result, Ok, Err, Option, Some, None, ⊤}
use Rattle.refusals.specs.Numbers.{number_of}
use Rattle.refusals.specs.Said.{Said, number, gives}
use Rattle.memory.specs.Offsets.{most_places, table_size}
use Rattle.addercoil.specs.Done.{done_number}
use Rattle.entries.specs.Means.{bit}
use Rattle.entries.specs.Twos.{twos}
use Rattle.whereabouts.specs.declared.Site.{Site}
use Rattle.table.specs.Table.{After}
use Rattle.table.specs.Heard.{heard_as}
use Rattle.entries.specs.Sent.{Sent, sent}
use Rattle.messages.specs.declared.Message.{Message}
use Rattle.refusals.specs.declared.Refusal.{Refusal}

-- how many bytes a table of so many places has; 0 if there is none
abbrev pub bytes_for : ℕ → ℕ
bytes_for places = cond (leb 1 places && leb places most_places) (table_size places) 0

-- ---- a call that leaves a table: 0 or its number, and the table

unfoldable pub set_up_sent : After (Result ⊤ Refusal) → Sent
set_up_sent a = sent (done_number a.answer) a.table

unfoldable pub received_sent : After (Result Message Refusal) → Sent
received_sent a = sent (done_number (heard_as a.answer)) a.table

-- ---- what can be read of it

-- the clock
abbrev pub clock_said : Result ℕ Refusal → Said (List ℕ)
clock_said (Ok time) = gives (time ∷ [])
clock_said (Err r) = number (number_of r)

-- whether there is a site, its latitude, its longitude
abbrev pub site_values : Site → Said (List ℕ)
site_values s = gives (bit s.known ∷ twos s.spot.latitude ∷ s.spot.longitude ∷ [])

abbrev pub site_said : Result Site Refusal → Said (List ℕ)
site_said (Ok s) = site_values s
site_said (Err r) = number (number_of r)

-- the key, or 0 at the end
abbrev pub next_said : Result (Option ℕ) Refusal → Said (List ℕ)
next_said (Ok (Some key)) = gives (key ∷ [])
next_said (Ok None) = gives (0 ∷ [])
next_said (Err r) = number (number_of r)
