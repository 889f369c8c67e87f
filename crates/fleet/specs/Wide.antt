-- RULES 18.5: a single table with a place for every key: a form of any number of places, which nobody has to lend. It is what a fleet is held to.
use Rattle.std.specs.Prelude.{ℕ, ◌≤◌, ◌<◌, Bool, true, false, cond, ◌≡◌, List, eqb, length, Ok}
use Rattle.whereabouts.specs.declared.Site.{Site}
use Rattle.whereabouts.specs.Located.{no_site}
use Rattle.track.specs.Track.{new_track}
use Rattle.rules.specs.Form.{Cell, taken, Form, East}
use Rattle.rules.specs.Rules.{set_up, received}
use Rattle.isolation.specs.Runs.{Call}
use Rattle.isolation.specs.Logs.{left}
use Rattle.fleet.specs.Sparse.{Same}
use Rattle.fleet.specs.Fleet.{least_deal, Tick}
use Rattle.fleet.specs.Room.{Among, going_to}
use Rattle.fleet.specs.Together.{OneListing}

pub record Wide : Type 0 where
  pub places : ℕ
  pub now : ℕ
  pub at : Site
  pub cells : ℕ → Cell

abbrev pub nothing : Cell
nothing = record { key = 0; track = new_track; in_range = false }

-- n places, and nothing in them
abbrev pub roomy : ℕ → Wide
roomy n = record { places = n; now = 0; at = no_site; cells = λ i. nothing }

abbrev pub wide : Form Wide
wide =
    record {
      whole = λ s. true;
      count = λ s. s.places;
      clock = λ s. s.now;
      site = λ s. s.at;
      cell = λ s i. s.cells i;
      moved = λ s t. record { places = s.places; now = t; at = s.at; cells = s.cells };
      stored = λ s i key x. record { places = s.places; now = s.now; at = s.at; cells = λ j. cond (eqb j i) (taken key x) (s.cells j) };
      emptied = λ s o. record { places = s.places; now = 0; at = cond o.known o no_site; cells = λ i. nothing };
    }

-- ---- the statements: each table of a fleet has a place for every key that goes to it, and the single table for every key. Neither then answers 6, and nothing is said about it

-- what each key is told, and what is held of it in its own table
abbrev pub RoomySame : {T : Type 0} → Form T → Type 0
RoomySame {T} G =
    (which : ℕ → ℕ) (site : Site) → East site → (tables : ℕ → T) → ((i : ℕ) → (set_up G (tables i) site).answer ≡ Ok tt) → (stream : List Call) (t : Call) → Tick stream t
    → (keys : List ℕ) → Among keys stream → ((i : ℕ) → length (going_to which i keys) ≤ G.count (tables i)) → (key : ℕ)
    → Same wide G (received wide) (received G) key (set_up wide (roomy (length keys)) site).table (set_up G (tables (which key)) site).table stream (least_deal which (which key) stream t)

-- what all of them list
abbrev pub RoomyListing : {T : Type 0} → Form T → Type 0
RoomyListing {T} G =
    (which : ℕ → ℕ) (site : Site) → East site → (tables : ℕ → T) → ((i : ℕ) → (set_up G (tables i) site).answer ≡ Ok tt) → (stream : List Call) (t : Call) → Tick stream t
    → (keys : List ℕ) → Among keys stream → ((i : ℕ) → length (going_to which i keys) ≤ G.count (tables i)) → (n : ℕ) → ((key : ℕ) → which key < n) → (all : Bool)
    → OneListing wide G all n (left (received wide) (set_up wide (roomy (length keys)) site).table stream) (λ i. left (received G) (set_up G (tables i) site).table (least_deal which i stream t))
