-- RULES 18.5: a table of a fleet as C sees it, with a place for every key that goes to it. It is held to one table with a place for every key, however many they are, and no word is said about 6.
use Rattle.std.specs.Prelude.{ℕ, ◌≤◌, ◌≡◌, List, map, length, Ok, Option}
use Rattle.memory.specs.Offsets.{places_in}
use Rattle.entries.specs.Sent.{Sent, into}
use Rattle.track_rows.specs.Held.{looked_said}
use Rattle.rules.specs.Rules.{set_up, received, looked_up}
use Rattle.isolation.specs.Runs.{Call}
use Rattle.isolation.specs.Logs.{left}
use Rattle.addercoil.specs.Tables.{clock_said}
use Rattle.fleet.specs.Sparse.{told}
use Rattle.fleet.specs.Fleet.{least_deal, Tick}
use Rattle.fleet.specs.Room.{Among, going_to}
use Rattle.fleet.specs.Wide.{Wide, wide, roomy}
use Rattle.c_promises.specs.Calls.{LookUp, Clock}
use Rattle.c_promises.specs.Runs.{Site, site_of, Run}
use Rattle.c_promises.specs.Logs.{left_of}
use Rattle.c_fleet.specs.Sides.{number_in, returned}

-- ---- the single table: it is set up with the same site, has a place for every key, and hears the whole stream. It is a definition, and nobody has to lend it

abbrev pub single_begun : Option Site → List ℕ → Wide
single_begun site keys = (set_up wide (roomy (length keys)) (site_of site)).table

abbrev pub single : Option Site → List ℕ → List Call → Wide
single site keys stream = left (received wide) (single_begun site keys) stream

-- ---- table i of a fleet: a set-up that returned 0, the calls of the stream that are for it and not late, and last a tick. It has a place for each of the keys that goes to it
pub record TableOf (which : ℕ → ℕ) (i : ℕ) (site : Option Site) (stream : List Call) (keys : List ℕ) : Type 0 where
  pub last : Call
  pub tick : Tick stream last
  pub backs : List Sent
  pub run : Run site (least_deal which i stream last) backs
  pub room : length (going_to which i keys) ≤ places_in run.table

-- what C is told of a key by its table of the fleet is what the single table tells. The numbers of its calls that are not late; then what addercoil_clock and addercoil_look_up return and write, with an array of any length
pub record AsSingle (which : ℕ → ℕ) (site : Option Site) (stream : List Call) (keys : List ℕ) (key : ℕ) (table : TableOf which (which key) site stream keys) : Type 0 where
  pub numbers : returned key 0 (least_deal which (which key) stream table.last) table.backs ≡ map number_in (told (received wide) key 0 (single_begun site keys) stream)
  pub clock : (out : List ℕ) (x : Sent) → Clock (left_of table.run) out x → x ≡ into 1 out (clock_said (Ok (wide.clock (single site keys stream))))
  pub track : (out : List ℕ) (x : Sent) → LookUp (left_of table.run) key out x → x ≡ into 72 out (looked_said key (looked_up wide (single site keys stream) key))

-- each acceptable message of the stream has one of the keys, of which there may be more than a table of C has places
abbrev pub RoomyFleet : Type 0
RoomyFleet =
    (which : ℕ → ℕ) (site : Option Site) (stream : List Call) (keys : List ℕ) → Among keys stream
    → (key : ℕ) (table : TableOf which (which key) site stream keys) → AsSingle which site stream keys key table
