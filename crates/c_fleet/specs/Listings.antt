-- RULES 18.6: what C prints of the tables of a fleet: together it is the listing of a single table with a place for every key.
use Rattle.std.specs.Prelude.{ℕ, ◌<◌, Bool, cond, ◌≡◌, List, [], ◌∷◌, eqb, length, Option}
use Rattle.text.specs.declared.Row.{Row}
use Rattle.isolation.specs.Runs.{Call}
use Rattle.display.specs.Lines.{chosen}
use Rattle.fleet.specs.Room.{Among}
use Rattle.fleet.specs.Wide.{wide}
use Rattle.fleet.specs.Together.{rows_of, listed, all_of, sum_of}
use Rattle.c_promises.specs.Runs.{Site}
use Rattle.c_promises.specs.Logs.{left_of}
use Rattle.c_listings.specs.Prints.{Prints}
use Rattle.c_fleet.specs.Roomy.{single, TableOf}

-- ---- what the single table lists

abbrev pub clock_of_all : Option Site → List ℕ → List Call → ℕ
clock_of_all site keys stream = wide.clock (single site keys stream)

-- all rows, or those with a position, as C chooses by 1 and 0
abbrev pub rows_of_all : Option Site → List ℕ → List Call → ℕ → List Row
rows_of_all site keys stream all = rows_of wide (chosen all) (single site keys stream)

-- ---- .. and of that a table of the fleet

-- the rows whose keys pass a test, in their order
abbrev pub rows_with : (ℕ → Bool) → List Row → List Row
rows_with is [] = []
rows_with is (r ∷ rs) = cond (is r.key) (r ∷ rows_with is rs) (rows_with is rs)

abbrev pub rows_for : (ℕ → ℕ) → ℕ → List Row → List Row
rows_for which i rows = rows_with (λ key. eqb (which key) i) rows

-- what is printed of it by addercoil_listing, or line by line: the clock of the single table, the rows whose keys go to it, and the number of bad blocks that C gave
abbrev pub FleetPrints : Type 0
FleetPrints =
    (which : ℕ → ℕ) (i : ℕ) (site : Option Site) (stream : List Call) (keys : List ℕ) → Among keys stream
    → (table : TableOf which i site stream keys) (bad all : ℕ) (text : List ℕ) → Prints (left_of table.run) bad all text
    → text ≡ listed (clock_of_all site keys stream) (rows_for which i (rows_of_all site keys stream all)) bad

-- ---- all tables: keys go to n of them. Their rows in the order of the keys are the rows of the single table, and the numbers behind "tracks" add up to its number
abbrev pub RowsAddUp : Type 0
RowsAddUp =
    (which : ℕ → ℕ) (n : ℕ) → ((key : ℕ) → which key < n) → (site : Option Site) (stream : List Call) (keys : List ℕ) (all : ℕ)
    → (all_of n (λ i. rows_for which i (rows_of_all site keys stream all)) ≡ rows_of_all site keys stream all)
    × (sum_of n (λ i. length (rows_for which i (rows_of_all site keys stream all))) ≡ length (rows_of_all site keys stream all))
