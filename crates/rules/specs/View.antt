-- RULES 9.2 to 9.6: the abstract table: its clock, its site, and the track of each key that it holds.
use Rattle.std.specs.Prelude.{ℕ, ◌≤◌, ◌<◌, Bool, true, false, cond, ◌⊎◌, ◌≡◌, List, ltb, Ok, Option, Some, None, Result, Err}
use Rattle.refusals.specs.declared.Refusal.{Refusal}
use Rattle.refusals.specs.declared.Refusal.TheVariants.{Length, Late, Parity, Format, TypeCode, Full, Places, NoTrack}
use Rattle.messages.specs.declared.Message.{Message}
use Rattle.messages.specs.Message.{decoded, key_of, starts}
use Rattle.whereabouts.specs.declared.Site.{Site}
use Rattle.track.specs.declared.Track.{Track}
use Rattle.place.specs.Place.{Fits}
use Rattle.rules.specs.Search.{lowest}
use Rattle.rules.specs.Form.{Cell, is_held, holds, Form}

-- of n things the first that passes the test
abbrev pub look : {C : Type 0} → (C → Bool) → (ℕ → C) → ℕ → Option C
look is f n = cond (ltb (lowest (λ i. is (f i)) n) n) (Some (f (lowest (λ i. is (f i)) n))) None

abbrev pub track_in : Option Cell → Option Track
track_in None = None
track_in (Some c) = Some c.track

-- the track of a key at a clock: that of the lowest place held with the key, if there is one
unfoldable pub view_at : {S : Type 0} → Form S → ℕ → S → ℕ → Option Track
view_at F clock s key = track_in (look (holds clock key) (F.cell s) (F.count s))

abbrev pub view : {S : Type 0} → Form S → S → ℕ → Option Track
view F s key = view_at F (F.clock s) s key

-- at most one of n things passes the test
abbrev pub Once : {C : Type 0} → (C → Bool) → (ℕ → C) → ℕ → Type 0
Once is f n = (i j : ℕ) → i < n → j < n → is (f i) ≡ true → is (f j) ≡ true → i ≡ j

-- the track of each place in range has room in a body
abbrev pub AllFit : {S : Type 0} → Form S → S → Type 0
AllFit F s = (i : ℕ) → i < F.count s → (F.cell s i).in_range ≡ true → Fits (F.cell s i).track

-- a table of whole places in which each key is held at most once at its clock
pub record Table {S : Type 0} (F : Form S) (s : S) : Type 0 where
  pub size : F.whole s ≡ true
  pub fit : AllFit F s
  pub once : (key : ℕ) → Once (holds (F.clock s) key) (F.cell s) (F.count s)

-- a table as set-up leaves it: at clock 0, with the site, and no key held
pub record Fresh {S : Type 0} (F : Form S) (site : Site) (s : S) : Type 0 where
  pub table : Table F s
  pub clock : F.clock s ≡ 0
  pub sited : F.site s ≡ site
  pub unheld : (key : ℕ) → view F s key ≡ None

-- no place holds the key at the clock
abbrev pub Unheld : {S : Type 0} → Form S → ℕ → ℕ → S → Type 0
Unheld F clock key s = (i : ℕ) → i < F.count s → holds clock key (F.cell s i) ≡ false

-- .. and each holds a track in date
pub record AllTaken {S : Type 0} (F : Form S) (clock key : ℕ) (s : S) : Type 0 where
  pub unheld : Unheld F clock key s
  pub taken : (i : ℕ) → i < F.count s → is_held clock (F.cell s i) ≡ true

-- 1, 7 and 2, which come before the clock moves
abbrev pub Early : Refusal → Type 0
Early r = (r ≡ Length) ⊎ ((r ≡ Places) ⊎ (r ≡ Late))

-- 3, 4 and 5, which are the decoder's
abbrev pub Undecoded : Refusal → Type 0
Undecoded r = (r ≡ Parity) ⊎ ((r ≡ Format) ⊎ (r ≡ TypeCode))

-- 6 and 12, of a message that the decoder takes and that gets no place
abbrev pub Unplaced : Refusal → Type 0
Unplaced r = (r ≡ Full) ⊎ (r ≡ NoTrack)

-- all of these, which come after the clock has moved
abbrev pub Later : Refusal → Type 0
Later r = Undecoded r ⊎ Unplaced r

-- a message that the decoder takes, and that may start a track, and no room for its key
abbrev pub NoRoom : {S : Type 0} → Form S → ℕ → S → List ℕ → Type 0
NoRoom F time s message = (m : Message) × ((decoded message ≡ Ok m) × ((starts m ≡ true) × AllTaken F time (key_of m) s))

-- one that may not, and no track of its key
abbrev pub NoneToStep : {S : Type 0} → Form S → ℕ → S → List ℕ → Type 0
NoneToStep F time s message = (m : Message) × ((decoded message ≡ Ok m) × ((starts m ≡ false) × Unheld F time (key_of m) s))

-- ---- the walk in the order of the keys

-- some place holds the key at the table's clock
abbrev pub HeldKey : {S : Type 0} → Form S → S → ℕ → Type 0
HeldKey F s key = (i : ℕ) × ((i < F.count s) × (holds (F.clock s) key (F.cell s i) ≡ true))

-- what the answer says of the keys held
abbrev pub Follows : {S : Type 0} → Form S → S → ℕ → Result (Option ℕ) Refusal → Type 0
Follows F s above (Ok (Some key)) = HeldKey F s key × ((above < key) × ((other : ℕ) → above < other → HeldKey F s other → key ≤ other))
Follows F s above (Ok None) = (other : ℕ) → above < other → HeldKey F s other → ⊥
Follows F s above (Err r) = ⊥
