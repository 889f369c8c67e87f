-- RULES 19.2: a table in bytes beside one as a slice: of as many places, and set up alike.
use Rattle.std.specs.Prelude.{ℕ, cond, List, length, replicate, Result, ⊤}
use Rattle.memory.specs.Offsets.{table_size}
use Rattle.whereabouts.specs.declared.Site.{Site}
use Rattle.slice_places.specs.declared.Place.{Place}
use Rattle.table.specs.Table.{After, set_up, set_up_at}
use Rattle.refusals.specs.declared.Refusal.{Refusal}

abbrev pub twin_of : List Place → List ℕ
twin_of ps = replicate (table_size (length ps)) 0

-- `set_up` or `set_up_at`: the slice's set-up takes a site that is known or not
abbrev pub begun : Site → List ℕ → After (Result ⊤ Refusal)
begun site s = cond site.known (set_up_at s site.spot) (set_up s)
