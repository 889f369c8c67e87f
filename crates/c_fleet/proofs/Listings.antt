-- The listings of a fleet, of the calls from C: what is printed of a table is the listing of the definition, and what the table holds of a key is what the single table holds, or nothing.
-- Assumes nothing.
use Rattle.std.specs.Prelude.{Option, None}
use Prim.Native.Nat.{ℕ}
use mathlib.Core.Bool.{cond}
use mathlib.Core.Path.{◌≡◌, ap, ap₂, ◌∙◌}
use mathlib.Core.List.{List}
use lib.Dec.{eqb}
use lib.ListN.{length}
use Rattle.keys.specs.Keys.{end_of_keys}
use Rattle.text.specs.declared.Row.{Row}
use Rattle.rules.specs.View as rules-view
use Rattle.table.specs.Bytes.{bytes}
use Rattle.table.specs.View.{view}
use Rattle.isolation.specs.Runs.{Call}
use Rattle.display.specs.Lines.{chosen}
use Rattle.fleet.specs.Room.{Among}
use Rattle.fleet.specs.Together.{rows_of, listed}
use Rattle.fleet.specs.Wide.{wide}
use Rattle.fleet.proofs.Together.{held_same, counts_add, bytes_listed}
use Rattle.c_promises.specs.Runs.{Site}
use Rattle.c_promises.specs.Logs.{left_of}
use Rattle.c_listings.proofs.Printed.{prints_listing}
use Rattle.c_fleet.specs.Roomy.{single, TableOf}
use Rattle.c_fleet.specs.Listings.{rows_of_all, rows_for, FleetPrints, RowsAddUp}
use Rattle.c_fleet.proofs.Roomy.{clock_left, held_left}
use Rattle.c_fleet.proofs.Rows.{Rising, rising_held, held_with, all_rows}

pub rows_left_lem : (which : ℕ → ℕ) (i : ℕ) (site : Option Site) (stream : List Call) (keys : List ℕ) → Among keys stream → (table : TableOf which i site stream keys) (all : ℕ)
    → rows_of bytes (chosen all) (left_of table.run) ≡ rows_for which i (rows_of_all site keys stream all)
rows_left_lem which i site stream keys among table all =
    held_same (chosen all) (view (left_of table.run)) (λ key. cond (eqb (which key) i) (rules-view.view wide (single site keys stream) key) None)
    (held_left which i site stream keys among table) end_of_keys
    ∙ held_with (chosen all) (λ key. eqb (which key) i) (rules-view.view wide (single site keys stream)) end_of_keys

pub fleet_prints : FleetPrints
fleet_prints which i site stream keys among table bad all text printed =
    prints_listing printed
    ∙ bytes_listed (chosen all) (left_of table.run) bad
    ∙ ap₂ (λ (clock : ℕ) (rows : List Row). listed clock rows bad) (clock_left which i site stream keys among table) (rows_left_lem which i site stream keys among table all)

pub rising_all : (site : Option Site) (stream : List Call) (keys : List ℕ) (all : ℕ) → Rising (rows_of_all site keys stream all)
rising_all site stream keys all = rising_held (chosen all) (rules-view.view wide (single site keys stream)) end_of_keys

pub rows_add_up : RowsAddUp
rows_add_up which n h site stream keys all =
    let rows : List Row = rows_of_all site keys stream all in
    let e = all_rows which rows (rising_all site stream keys all) n h in
    (e, counts_add n (λ i. rows_for which i rows) ∙ ap length e)
