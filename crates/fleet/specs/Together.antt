-- RULES 18.6: the listings of several tables as one: the rows of all in the order of their keys, and the number of them. It is held to what one table would list, in any form.
use Rattle.std.specs.Prelude.{ℕ, zero, suc, ◌+◌, ◌<◌, Bool, cond, ◌≡◌, List, [], ◌∷◌, ◌++◌, ltb, length, Ok, Option}
use Rattle.keys.specs.Keys.{end_of_keys}
use Rattle.whereabouts.specs.declared.Site.{Site}
use Rattle.track.specs.declared.Track.{Track}
use Rattle.text.specs.declared.Row.{Row}
use Rattle.text.specs.Lines.{header_text}
use Rattle.rules.specs.Form.{Form, East}
use Rattle.rules.specs.Rules.{set_up, received}
use Rattle.rules.specs.View.{view}
use Rattle.table.specs.Bytes.{bytes}
use Rattle.report.specs.Listing.{row_for, as_list, texts, listing}
use Rattle.isolation.specs.Runs.{Call, NeverFull}
use Rattle.isolation.specs.Logs.{left}
use Rattle.fleet.specs.Fleet.{least_deal, Tick}

-- ---- what one table lists, in any form

-- the rows of the keys below k, one key after the other, by the track that is held of each
abbrev pub rows_held : Bool → (ℕ → Option Track) → ℕ → List Row
rows_held all held zero = []
rows_held all held (suc k) = rows_held all held k ++ as_list (row_for all k (held k))

abbrev pub rows_of : {S : Type 0} → Form S → Bool → S → List Row
rows_of F all s = rows_held all (view F s) end_of_keys

-- the header and the lines, by a clock, rows and a number of bad blocks
abbrev pub listed : ℕ → List Row → ℕ → List ℕ
listed clock rows bad = header_text clock (length rows) bad ++ texts rows

-- of a table in bytes that is its listing, whatever its bytes
abbrev pub BytesListed : Type 0
BytesListed = (all : Bool) (s : List ℕ) (bad : ℕ) → listing all s bad ≡ listed (bytes.clock s) (rows_of bytes all s) bad

-- ---- several as one

-- a row among rows in order: before the first whose key is above its own
abbrev pub put_in : Row → List Row → List Row
put_in x [] = x ∷ []
put_in x (y ∷ ys) = cond (ltb x.key y.key) (x ∷ y ∷ ys) (y ∷ put_in x ys)

abbrev pub together : List Row → List Row → List Row
together [] ys = ys
together (x ∷ xs) ys = put_in x (together xs ys)

-- those of tables 0 up to n - 1
abbrev pub all_of : ℕ → (ℕ → List Row) → List Row
all_of zero rows = []
all_of (suc n) rows = together (rows n) (all_of n rows)

abbrev pub sum_of : ℕ → (ℕ → ℕ) → ℕ
sum_of zero number = 0
sum_of (suc n) number = number n + sum_of n number

-- ---- the statement

-- n tables, each dealt its keys' messages of a stream and then a tick; none answered 6, nor did the one table. Their clocks are its clock, their rows together are its rows, and the numbers of their rows add up to its number
pub record OneListing {S T : Type 0} (F : Form S) (G : Form T) (all : Bool) (n : ℕ) (one : S) (tables : ℕ → T) : Type 0 where
  pub clock : (i : ℕ) → G.clock (tables i) ≡ F.clock one
  pub rows : all_of n (λ i. rows_of G all (tables i)) ≡ rows_of F all one
  pub tracks : sum_of n (λ i. length (rows_of G all (tables i))) ≡ length (rows_of F all one)

abbrev pub FleetListing : {S T : Type 0} → Form S → Form T → Type 0
FleetListing {S} {T} F G =
    (which : ℕ → ℕ) (n : ℕ) → ((key : ℕ) → which key < n) → (site : Site) → East site
    → (s : S) → (set_up F s site).answer ≡ Ok tt → (tables : ℕ → T) → ((i : ℕ) → (set_up G (tables i) site).answer ≡ Ok tt)
    → (stream : List Call) (t : Call) → Tick stream t → ((key : ℕ) → NeverFull (received F) key (set_up F s site).table stream)
    → ((key : ℕ) → NeverFull (received G) key (set_up G (tables (which key)) site).table (least_deal which (which key) stream t))
    → (all : Bool) → OneListing F G all n (left (received F) (set_up F s site).table stream) (λ i. left (received G) (set_up G (tables i) site).table (least_deal which i stream t))
