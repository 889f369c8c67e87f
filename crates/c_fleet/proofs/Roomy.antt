-- A table of a fleet with room, of the calls from C: its run is one that the rules played, and the theorem over the rules of any form carries over.
-- Assumes nothing.
use Rattle.std.specs.Prelude.{Ok, Option, None, Result}
use Prim.Native.Nat.{ℕ}
use mathlib.Core.Bool.{cond}
use mathlib.Core.Path.{◌≡◌, refl, ap, sym, ◌∙◌}
use mathlib.Core.List.{List, map}
use lib.Dec.{eqb}
use lib.ListN.{length}
use Rattle.entries.specs.Sent.{into}
use Rattle.track_rows.specs.Held.{looked_said}
use Rattle.rules.specs.Rules as rules
use Rattle.rules.specs.View as rules-view
use Rattle.table_bytes.specs.Layout.{clock_of}
use Rattle.table.specs.Bytes.{bytes}
use Rattle.table.specs.Table.{received, looked_up}
use Rattle.table.specs.View.{view}
use Rattle.table.proofs.Lawful.{bytes_lawful}
use Rattle.isolation.specs.Runs.{Call}
use Rattle.addercoil.specs.Tables.{clock_said}
use Rattle.fleet.specs.Sparse.{Same}
use Rattle.fleet.specs.Fleet.{least_deal}
use Rattle.fleet.specs.Room.{Among}
use Rattle.fleet.specs.Wide.{wide, roomy}
use Rattle.fleet.proofs.Wide.{one_done, table_clock, table_same, table_holds}
use Rattle.c_promises.specs.Runs.{Site, site_of}
use Rattle.c_promises.specs.Logs.{left_of}
use Rattle.c_promises.proofs.Followed.{look_up_is}
use Rattle.c_promises.proofs.Isolated.{east, run_done, by_rule}
use Rattle.c_promises.proofs.Timed.{clock_is}
use Rattle.c_fleet.specs.Sides.{number_in}
use Rattle.c_fleet.specs.Roomy.{single_begun, single, TableOf, RoomyFleet}
use Rattle.c_fleet.proofs.Sides.{returned_is, left_is, clock_said_lem}
use Rattle.refusals.specs.declared.Refusal.{Refusal}
use Rattle.track.specs.declared.Track.{Track}

-- ---- what the run leaves, by the rules

module _ (which : ℕ → ℕ) (i : ℕ) (site : Option Site) (stream : List Call) (keys : List ℕ) (among : Among keys stream) (table : TableOf which i site stream keys) where
  abbrev lent : List ℕ
  lent = table.run.table

  pub single_done : (rules.set_up wide (roomy (length keys)) (site_of site)).answer ≡ Ok tt
  single_done = one_done bytes bytes_lawful which i (site_of site) (east site) lent (run_done site table.run) stream table.last table.tick keys among table.room

  pub clock_left : clock_of (left_of table.run) ≡ wide.clock (single site keys stream)
  clock_left =
      ap clock_of (left_is site table.run)
      ∙ table_clock bytes bytes_lawful which i (site_of site) (east site) lent (run_done site table.run) stream table.last table.tick keys among table.room

  pub held_left : (key : ℕ) → view (left_of table.run) key ≡ cond (eqb (which key) i) (rules-view.view wide (single site keys stream) key) None
  held_left key =
      ap (λ (s : List ℕ). view s key) (left_is site table.run)
      ∙ table_holds bytes bytes_lawful which i (site_of site) (east site) lent (run_done site table.run) stream table.last table.tick keys among table.room key

  same_left : (key : ℕ) → which key ≡ i
      → Same wide bytes (rules.received wide) received key (single_begun site keys) (rules.set_up bytes lent (site_of site)).table stream (least_deal which i stream table.last)
  same_left key =
      table_same bytes bytes_lawful which i (site_of site) (east site) lent (run_done site table.run) stream table.last table.tick keys among table.room key

pub roomy_fleet : RoomyFleet
roomy_fleet which site stream keys among key table =
    let same = same_left which (which key) site stream keys among table key refl in
    record {
      numbers = returned_is key 0 (by_rule site table.run) ∙ ap (map number_in) (sym same.answers);
      clock = λ out x a.
          clock_is a
          ∙ ap (λ (z : Result ℕ Refusal). into 1 out (clock_said z)) (clock_said_lem site table.run ∙ ap Ok (clock_left which (which key) site stream keys among table));
      track = λ out x a.
          look_up_is a
          ∙ ap (λ (l : Result (Option Track) Refusal). into 72 out (looked_said key l)) (ap (λ (s : List ℕ). looked_up s key) (left_is site table.run) ∙ sym same.asked);
    }
