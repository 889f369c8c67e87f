-- RULES 18.4: two runs of calls from C that an aircraft can't tell apart at their end: its own calls that are not late are the same, and so is the latest time. Calls of others may be left out.
use Rattle.std.specs.Prelude.{ℕ, cond, ◌≡◌, List, [], ◌∷◌, Result, Option}
use Rattle.entries.specs.Sent.{Sent}
use Rattle.table.specs.Heard.{heard_as}
use Rattle.isolation.specs.Runs.{Call}
use Rattle.addercoil.specs.Done.{done_number}
use Rattle.fleet.specs.Sparse.{ticked, heeds, Sparse}
use Rattle.c_promises.specs.Calls.{Clock}
use Rattle.c_promises.specs.Runs.{Site, Run, Never6, SameTrack}
use Rattle.c_promises.specs.Logs.{left_of}
use Rattle.messages.specs.declared.Message.{Message}
use Rattle.refusals.specs.declared.Refusal.{Refusal}

-- the number that addercoil_receive returns for an answer
abbrev pub number_in : Result Message Refusal → ℕ
number_in d = done_number (heard_as d)

-- the numbers that addercoil_receive returned to an aircraft's own calls that are not late, from a clock on. To one that is late it returned 2
abbrev pub returned : ℕ → ℕ → List Call → List Sent → List ℕ
returned key clock (c ∷ cs) (x ∷ xs) = cond (heeds key clock c) (x.number ∷ returned key (ticked clock c) cs xs) (returned key (ticked clock c) cs xs)
returned key clock [] xs = []
returned key clock (c ∷ cs) [] = []

-- the same numbers; and at the end the same clock, by addercoil_clock into the same array, and the same track, by addercoil_look_up
pub record SameSide (key : ℕ) (cs ds : List Call) (xs ys : List Sent) (table other : List ℕ) : Type 0 where
  pub numbers : returned key 0 cs xs ≡ returned key 0 ds ys
  pub clock : (out : List ℕ) (x y : Sent) → Clock table out x → Clock other out y → x ≡ y
  pub track : SameTrack key table other

-- two runs, each from a set-up of its own that returned 0, with the same site or with none, in tables of any sizes; a message of the aircraft returned 6 in neither
abbrev pub SideBySide : Type 0
SideBySide =
    (key : ℕ) (site : Option Site) (cs ds : List Call) (xs ys : List Sent) (p : Run site cs xs) (q : Run site ds ys) → Sparse key cs ds
    → Never6 key cs xs → Never6 key ds ys → SameSide key cs ds xs ys (left_of p) (left_of q)
