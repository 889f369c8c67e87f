-- RULES 1.4: demand 3 as C sees it. Take two runs from one set-up, with as many calls and equal times. Calls with one aircraft's messages are the same in both. Each other call may bring any other 14 bytes, if they
-- are no acceptable message of that aircraft. If neither run returns 6 to that aircraft, its answers are equal call by call, and after each call its track is equal, or absent from both.
use Rattle.std.specs.Prelude.{ℕ, ◌^◌, ◌<◌, true, ◌≡◌, ◌↔◌, List, [], ◌∷◌, ℤ, length, get_or, Option, Some, None}
use Rattle.entries.specs.Sent.{Sent}
use Rattle.messages.specs.Message.{decoded}
use Rattle.whereabouts.specs.declared.Site as located
use Rattle.whereabouts.specs.Located.{no_site, site_at}
use Rattle.isolation.specs.Runs.{Call, is_of, own, Alike}
use Rattle.c_promises.specs.Calls.{SetUp, SetUpAt, Receive, LookUp, Decode}

-- a site, as a set-up is given it: a longitude has 32 bits
pub record Site : Type 0 where
  pub latitude : ℤ
  pub longitude : ℕ
  pub fits : longitude < 2 ^ 32

-- the site of a table that was set up so: none after addercoil_set_up
abbrev pub site_of : Option Site → located.Site
site_of None = no_site
site_of (Some site) = site_at (record { latitude = site.latitude; longitude = site.longitude })

-- a set-up with a site or with none
abbrev pub Begin : Option Site → List ℕ → Sent → Type 0
Begin None table back = SetUp table back
Begin (Some site) table back = SetUpAt table site.latitude site.longitude back

-- calls of addercoil_receive, one after another, each lent the table that the one before left
pub data Ran : List ℕ → List Call → List Sent → Type 0 where
  stopped : {table : List ℕ} → Ran table [] []
  then : {table : List ℕ} {c : Call} {back : Sent} {cs : List Call} {backs : List Sent}
      → Receive table c.message c.time back → Ran back.array cs backs → Ran table (c ∷ cs) (back ∷ backs)

-- a run: a set-up that returned 0, and the calls
pub record Run (site : Option Site) (cs : List Call) (backs : List Sent) : Type 0 where
  pub table : List ℕ
  pub back : Sent
  pub begun : Begin site table back
  pub done : back.number ≡ 0
  pub ran : Ran back.array cs backs

-- no call with a message of the aircraft returned 6
abbrev pub Never6 : ℕ → List Call → List Sent → Type 0
Never6 key (c ∷ cs) (r ∷ rs) = (own key c ≡ true → r.number ≡ 6 → ⊥) × Never6 key cs rs
Never6 key [] rs = Unit {0}
Never6 key (c ∷ cs) [] = Unit {0}

-- addercoil_look_up of a key, asked in two tables, each time with any array of ADDERCOIL_TRACK entries: both times it returns 0, and it writes the same entries
abbrev pub SameTrack : ℕ → List ℕ → List ℕ → Type 0
SameTrack key table other =
    (track track' : List ℕ) (x y : Sent) → length track ≡ 72 → length track' ≡ 72 → LookUp table key track x → LookUp other key track' y
    → (x.number ≡ 0) × (y.number ≡ 0) × (x.array ≡ y.array)

-- two runs side by side, call by call: a call with the aircraft's message returned the same number in both, and after each call its track is the same
abbrev pub SameTo : ℕ → List Call → List Sent → List Sent → Type 0
SameTo key (c ∷ cs) (x ∷ xs) (y ∷ ys) = (own key c ≡ true → x.number ≡ y.number) × SameTrack key x.array y.array × SameTo key cs xs ys
SameTo key [] [] [] = Unit {0}
SameTo key [] [] (y ∷ ys) = ⊥
SameTo key [] (x ∷ xs) ys = ⊥
SameTo key (c ∷ cs) [] ys = ⊥
SameTo key (c ∷ cs) (x ∷ xs) [] = ⊥

-- demand 3: two runs that are alike for an aircraft, with the same site or with none, are the same to it unless a message of its own returned 6 in either
abbrev pub Isolation : Type 0
Isolation =
    (key : ℕ) (site : Option Site) (cs ds : List Call) (xs ys : List Sent) → Run site cs xs → Run site ds ys → Alike key cs ds
    → Never6 key cs xs → Never6 key ds ys → SameTo key cs xs ys

-- whose message some bytes are, by addercoil_decode into an array of ADDERCOIL_FIELDS entries: it returns 0, and writes the key at ADDERCOIL_KEY
abbrev pub SaysKey : ℕ → Sent → Type 0
SaysKey key back = (back.number ≡ 0) × (get_or back.array 4 0 ≡ key)

-- .. of any bytes, and so of a call's
abbrev pub KeyByDecode : Type 0
KeyByDecode =
    (key : ℕ) (message fields : List ℕ) (back : Sent) → length fields ≡ 28 → Decode message fields back → is_of key (decoded message) ≡ true ↔ SaysKey key back

abbrev pub OwnByDecode : Type 0
OwnByDecode = (key : ℕ) (c : Call) (fields : List ℕ) (back : Sent) → length fields ≡ 28 → Decode c.message fields back → own key c ≡ true ↔ SaysKey key back
