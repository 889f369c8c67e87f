-- RULES 19.2: what is decided of the places by value, where no message is at hand: in a set-up, a look and a walk.
use Rattle.std.specs.Prelude.{ℕ, false, cond, not, ◌&&◌, Ok, Err}
use Rattle.refusals.specs.declared.Refusal.{Refusal}
use Rattle.refusals.specs.declared.Refusal.TheVariants.{Places, Field}
use Rattle.positions.specs.Positions.{pole_to_pole}
use Rattle.whereabouts.specs.declared.Site.{Site}
use Rattle.rules.specs.Search as search
use Rattle.slice_places.specs.declared.Place.{Place}
use Rattle.slice_places.specs.declared.Head.{Head}
use Rattle.slice_places.specs.declared.Started.{Started}
use Rattle.slice_places.specs.declared.Sought.{Sought}
use Rattle.slice_places.specs.Ranges.{is_held}
use Rattle.slice_places.specs.Head.{places_fit, head_of}

-- a key, sought at a clock, and no free place
abbrev pub sought : ℕ → ℕ → Sought
sought clock key = record { clock = clock; key = key; starts = false }

-- ---- set-up

-- a refusal leaves the head as it was
abbrev pub not_started : Refusal → Head → Started
not_started r head = record { answer = Err r; head = head }

unfoldable pub started : ℕ → Head → Site → Started
started n head site =
    cond (not (places_fit n)) (not_started Places head)
    (cond (site.known && not (pole_to_pole site.spot.latitude)) (not_started Field head)
    (record { answer = Ok tt; head = head_of 0 site }))

-- ---- the next key

-- the lesser of the best key so far, 0 for none, and the place's, if that is held and above
abbrev pub better : ℕ → ℕ → ℕ → Place → ℕ
better clock above best p = search.better above best p.key (is_held clock p)
