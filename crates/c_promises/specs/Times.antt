-- RULES 10.7: the times of stamps as C sees them. They are right if the first accepted stamp is the true time, true times never go back and none is 2^31 milliseconds or more past the last accepted one.
use Rattle.std.specs.Prelude.{ℕ, Bool, true, cond, not, ◌≡◌, List, [], ◌∷◌, length, Option, Some, None}
use Rattle.entries.specs.Sent.{Sent, sent}
use Rattle.addercoil.specs.Blocks.{Both}
use Rattle.stamps.specs.Times.{not_accepted, IfElse, Call, stamp_of, NeverBack, Near}
use Rattle.c_promises.specs.Calls.{Receive, Clock}
use Rattle.c_promises.specs.Runs.{Site}
use Rattle.c_promises.specs.Stamps.{RunStamps}

-- a run whose calls bring any bytes, and the receiver's counter at their true time
abbrev pub RunTrue : Option Site → List Call → List Both → Type 0
RunTrue site cs backs = RunStamps (λ (c : Call). c.message) (λ (c : Call). stamp_of c.time) site cs backs

-- an accepted stamp: the call returned none of 1, 7, 2 and 13
abbrev pub accepted : Both → Bool
accepted back = not (not_accepted back.sent.number)

-- the first accepted stamp is the true time
abbrev pub FirstTrue : List Call → List Both → Type 0
FirstTrue (c ∷ cs) (x ∷ xs) = IfElse (accepted x) (stamp_of c.time ≡ c.time) (FirstTrue cs xs)
FirstTrue [] xs = Unit {0}
FirstTrue (c ∷ cs) [] = Unit {0}

-- no true time is 2^31 or more past the last accepted one
abbrev pub NoneFar : Option ℕ → List Call → List Both → Type 0
NoneFar last (c ∷ cs) (x ∷ xs) = Near last c.time × NoneFar (cond (accepted x) (Some c.time) last) cs xs
NoneFar last [] xs = Unit {0}
NoneFar last (c ∷ cs) [] = Unit {0}

-- what addercoil_clock then says: 0, and the time
abbrev pub ClockIs : List ℕ → ℕ → Type 0
ClockIs table time = (out : List ℕ) (back : Sent) → length out ≡ 1 → Clock table out back → back ≡ sent 0 (time ∷ [])

-- the times are right: each call with 14 bytes has its stamp accepted, the clock after it is its true time, and it returned and left what addercoil_receive does with its true time
abbrev pub Right : List ℕ → List Call → List Both → Type 0
Right table (c ∷ cs) (x ∷ xs) =
    (length c.message ≡ 14
    → (accepted x ≡ true) × ClockIs x.table c.time × ((back : Sent) → Receive table c.message c.time back → back ≡ sent x.sent.number x.table))
    × Right x.table cs xs
Right table [] xs = Unit {0}
Right table (c ∷ cs) [] = Unit {0}

-- from every set-up on, with a site or with none
abbrev pub TimesRight : Type 0
TimesRight =
    (site : Option Site) (cs : List Call) (xs : List Both) (run : RunTrue site cs xs) → FirstTrue cs xs → NeverBack 0 cs → NoneFar None cs xs → Right run.back.array cs xs
