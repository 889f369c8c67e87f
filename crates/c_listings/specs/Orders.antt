-- RULES 9.12: two antennas as C sees them. Two messages are offered one after the other with the same time, not both acceptable messages of one key. They give the same clock, the same answer to each and the same listing in either order,
-- if neither order answers 6. Places in the table may differ.
use Rattle.std.specs.Prelude.{ℕ, ◌^◌, ◌<◌, true, ◌≡◌, List}
use Rattle.fields.specs.Bytes.{Bytes}
use Rattle.messages.specs.Message.{decoded}
use Rattle.entries.specs.Sent.{Sent}
use Rattle.isolation.specs.Runs.{is_of}
use Rattle.c_promises.specs.Calls.{Receive, LookUp, Clock}
use Rattle.c_listings.specs.Prints.{Prints}

-- a message was offered to a table and then another, each with the time: what each returned, and the table that both left
pub record Offered (table a b : List ℕ) (time : ℕ) (x y : Sent) : Type 0 where
  pub first : Receive table a time x
  pub second : Receive x.array b time y

-- .. and neither returned 6
abbrev pub No6 : Sent → Sent → Type 0
No6 x y = (x.number ≡ 6 → ⊥) × (y.number ≡ 6 → ⊥)

-- both are acceptable messages of one key; addercoil_decode tells (KeyByDecode of c_promises)
abbrev pub OfOneKey : List ℕ → List ℕ → Type 0
OfOneKey a b = (key : ℕ) × ((is_of key (decoded a) ≡ true) × (is_of key (decoded b) ≡ true))

-- what C is told of two tables is the same: the clock, the track of every key, and the listing of all tracks or of those with a position, for every number of bad blocks. Each is asked with the same array of any length
pub record SameShown (table other : List ℕ) : Type 0 where
  pub clock : (out : List ℕ) (x y : Sent) → Clock table out x → Clock other out y → x ≡ y
  pub tracks : (key : ℕ) (track : List ℕ) (x y : Sent) → LookUp table key track x → LookUp other key track y → x ≡ y
  pub listing : (bad all : ℕ) (text text' : List ℕ) → Prints table bad all text → Prints other bad all text' → text ≡ text'

-- of every table, set up or not, and any messages of any length. A table has bytes, and a time 64 bits
abbrev pub EitherOrder : Type 0
EitherOrder =
    (table a b : List ℕ) (time : ℕ) → Bytes table → time < 2 ^ 64 → (OfOneKey a b → ⊥)
    → (x y v w : Sent) → Offered table a b time x y → Offered table b a time v w → No6 x y → No6 v w
    → (x.number ≡ w.number) × (y.number ≡ v.number) × SameShown y.array w.array
