-- RULES 18.4: a fleet of tables as C sees it: keys go to tables by any function, one stream is dealt out to them, and each aircraft is told and shown what one table would tell and show.
use Rattle.std.specs.Prelude.{ℕ, ◌≡◌, List, Option}
use Rattle.entries.specs.Sent.{Sent}
use Rattle.isolation.specs.Runs.{Call}
use Rattle.fleet.specs.Sparse.{latest}
use Rattle.fleet.specs.Fleet.{Dealt}
use Rattle.c_promises.specs.Runs.{Site, Run, Never6}
use Rattle.c_promises.specs.Logs.{left_of}
use Rattle.c_fleet.specs.Sides.{SameSide}

-- one table hears the stream, and table i of the fleet its deal, at a moment at which the clock of the key's table is the stream's
abbrev pub FleetIsOne : Type 0
FleetIsOne =
    (which : ℕ → ℕ) (site : Option Site) (stream : List Call) (backs : List Sent) (one : Run site stream backs)
    (deal : ℕ → List Call) (dealBacks : ℕ → List Sent) (tables : (i : ℕ) → Run site (deal i) (dealBacks i)) → ((i : ℕ) → Dealt which i 0 stream (deal i))
    → (key : ℕ) → latest 0 (deal (which key)) ≡ latest 0 stream → Never6 key stream backs → Never6 key (deal (which key)) (dealBacks (which key))
    → SameSide key stream (deal (which key)) backs (dealBacks (which key)) (left_of one) (left_of (tables (which key)))
