-- RULES 9: the lent table in bytes: the rules of any form, at the bytes.
use Rattle.std.specs.Prelude.{ℕ, cond, List, length, Result, Ok, Err, Option, ⊤}
use Rattle.refusals.specs.declared.Refusal.TheVariants.{Places}
use Rattle.positions.specs.declared.Spot.{Spot}
use Rattle.whereabouts.specs.Located.{no_site, site_at}
use Rattle.rules.specs.Rules as rules
use Rattle.memory.specs.Offsets.{whole_places}
use Rattle.table_bytes.specs.Layout.{clock_of, site_of}
use Rattle.table.specs.Bytes.{bytes}
use Rattle.messages.specs.declared.Message.{Message}
use Rattle.refusals.specs.declared.Refusal.{Refusal}
use Rattle.whereabouts.specs.declared.Site.{Site}
use Rattle.track.specs.declared.Track.{Track}

-- what a call answers, and the bytes that it leaves
abbrev pub After : Type 0 → Type 0
After A = rules.After (List ℕ) A

abbrev pub after : {A : Type 0} → A → List ℕ → After A
after a s = rules.after a s

abbrev pub set_up : List ℕ → After (Result ⊤ Refusal)
set_up s = rules.set_up bytes s no_site

abbrev pub set_up_at : List ℕ → Spot → After (Result ⊤ Refusal)
set_up_at s spot = rules.set_up bytes s (site_at spot)

abbrev pub received : List ℕ → List ℕ → ℕ → After (Result Message Refusal)
received s message time = rules.received bytes s message time

abbrev pub looked_up : List ℕ → ℕ → Result (Option Track) Refusal
looked_up s key = rules.looked_up bytes s key

abbrev pub next_above : List ℕ → ℕ → Result (Option ℕ) Refusal
next_above s above = rules.next_above bytes s above

-- ---- the head, which only this form has within the table

unfoldable pub clock_in : List ℕ → Result ℕ Refusal
clock_in s = cond (whole_places (length s)) (Ok (clock_of s)) (Err Places)

unfoldable pub site_in : List ℕ → Result Site Refusal
site_in s = cond (whole_places (length s)) (Ok (site_of s)) (Err Places)
