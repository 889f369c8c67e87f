-- RULES 1.5: demand 3 as C sees it if messages come with stamps. It then speaks of equal stamps: what a call has for a time is its stamp.
use Rattle.std.specs.Prelude.{ℕ, ◌^◌, ◌<◌, ◌≡◌, List, [], ◌∷◌, Option}
use Rattle.entries.specs.Sent.{Sent, sent}
use Rattle.addercoil.specs.Blocks.{Both}
use Rattle.isolation.specs.Runs.{Call, Alike}
use Rattle.c_promises.specs.Calls.{ReceiveStamp}
use Rattle.c_promises.specs.Runs.{Site, Begin, Never6, SameTo}

-- calls of addercoil_receive_stamp, one after another, each lent the table and the state that the one before left. A call c brings `message c` and `stamp c`, which has 32 bits
pub data RanStamps {C : Type 0} (message : C → List ℕ) (stamp : C → ℕ) : List ℕ → List ℕ → List C → List Both → Type 0 where
  stopped : {table state : List ℕ} → RanStamps message stamp table state [] []
  then : {table state : List ℕ} {c : C} {back : Both} {cs : List C} {backs : List Both}
      → stamp c < 2 ^ 32 → ReceiveStamp table (message c) (stamp c) state back → RanStamps message stamp back.table back.sent.array cs backs
      → RanStamps message stamp table state (c ∷ cs) (back ∷ backs)

-- a run: a set-up that returned 0, and the calls from a state of two zeros
pub record RunStamps {C : Type 0} (message : C → List ℕ) (stamp : C → ℕ) (site : Option Site) (cs : List C) (backs : List Both) : Type 0 where
  pub table : List ℕ
  pub back : Sent
  pub begun : Begin site table back
  pub done : back.number ≡ 0
  pub ran : RanStamps message stamp back.array (0 ∷ 0 ∷ []) cs backs

-- the number and the table of each call
abbrev pub tables_of : List Both → List Sent
tables_of [] = []
tables_of (b ∷ bs) = sent b.sent.number b.table ∷ tables_of bs

-- a run whose calls have a stamp for their time
abbrev pub RunEqual : Option Site → List Call → List Both → Type 0
RunEqual site cs backs = RunStamps (λ (c : Call). c.message) (λ (c : Call). c.time) site cs backs

abbrev pub StampedIsolation : Type 0
StampedIsolation =
    (key : ℕ) (site : Option Site) (cs ds : List Call) (xs ys : List Both) → RunEqual site cs xs → RunEqual site ds ys → Alike key cs ds
    → Never6 key cs (tables_of xs) → Never6 key ds (tables_of ys) → SameTo key cs (tables_of xs) (tables_of ys)
