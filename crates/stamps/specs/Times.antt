-- RULES 10.7: the times are right if the first accepted stamp is the true time, true times never go back and none is 2^31 milliseconds or more past the last accepted one.
use Rattle.std.specs.Prelude.{◌≡◌, ℕ, ◌+◌, ◌%◌, ◌^◌, ◌<◌, ◌≤◌, Bool, true, false, cond, not, ◌||◌, List, [], ◌∷◌, length, ◌==◌, Result, Ok, Err, Option, Some, None}
use Rattle.refusals.specs.Numbers.{number_of}
use Rattle.whereabouts.specs.declared.Site.{Site}
use Rattle.rules.specs.Form.{Form, East}
use Rattle.rules.specs.Rules.{After, set_up}
use Rattle.stamps.specs.declared.Stamps.{Stamps}
use Rattle.stamps.specs.declared.Stamped.{Stamped}
use Rattle.stamps.specs.Stamps.{fresh, stamped}
use Rattle.messages.specs.declared.Message.{Message}
use Rattle.refusals.specs.declared.Refusal.{Refusal}

-- an accepted stamp: one not refused with 1, 7, 2 or 13
abbrev pub not_accepted : ℕ → Bool
not_accepted n = n == 1 || (n == 7 || (n == 2 || n == 13))

abbrev pub is_accepted : Result Message Refusal → Bool
is_accepted (Ok m) = true
is_accepted (Err r) = not (not_accepted (number_of r))

-- one of two things, by a test
abbrev pub IfElse : Bool → Type 0 → Type 0 → Type 0
IfElse true A B = A
IfElse false A B = B

-- a call: any bytes, and their true time, of 64 bits
pub record Call : Type 0 where
  pub message : List ℕ
  pub time : ℕ
  pub fits : time < 2 ^ 64

-- the receiver's counter at a true time
abbrev pub stamp_of : ℕ → ℕ
stamp_of time = time % 2 ^ 32

-- a run: each call did what the rule says, with its stamp, to the table and the state that the one before it left
abbrev pub Played : {S : Type 0} → Form S → S → Stamps → List Call → List (After S Stamped) → Type 0
Played F s state [] [] = Unit {0}
Played F s state (c ∷ cs) (r ∷ rs) = (r ≡ stamped F s state c.message (stamp_of c.time)) × Played F r.table r.answer.state cs rs
Played F s state [] (r ∷ rs) = ⊥
Played F s state (c ∷ cs) [] = ⊥

-- the first accepted stamp is the true time
abbrev pub FirstTrue : {S : Type 0} → List Call → List (After S Stamped) → Type 0
FirstTrue (c ∷ cs) (r ∷ rs) = IfElse (is_accepted r.answer.answer) (stamp_of c.time ≡ c.time) (FirstTrue cs rs)
FirstTrue [] rs = Unit {0}
FirstTrue (c ∷ cs) [] = Unit {0}

-- true times never go back: each is at least the one before
abbrev pub NeverBack : ℕ → List Call → Type 0
NeverBack before [] = Unit {0}
NeverBack before (c ∷ cs) = (before ≤ c.time) × NeverBack c.time cs

-- none is 2^31 or more past the last accepted one, if there is one
abbrev pub Near : Option ℕ → ℕ → Type 0
Near None time = Unit {0}
Near (Some last) time = time < last + 2 ^ 31

abbrev pub NoneFar : {S : Type 0} → Option ℕ → List Call → List (After S Stamped) → Type 0
NoneFar last (c ∷ cs) (r ∷ rs) = Near last c.time × NoneFar (cond (is_accepted r.answer.answer) (Some c.time) last) cs rs
NoneFar last [] rs = Unit {0}
NoneFar last (c ∷ cs) [] = Unit {0}

-- the times are right: each call that brings 14 bytes is accepted, so that none is refused with 2 or 13, and the clock after it is its true time
abbrev pub Right : {S : Type 0} → Form S → List Call → List (After S Stamped) → Type 0
Right F (c ∷ cs) (r ∷ rs) =
    (length c.message ≡ 14 → (is_accepted r.answer.answer ≡ true) × (F.clock r.table ≡ c.time))
    × Right F cs rs
Right F [] rs = Unit {0}
Right F (c ∷ cs) [] = Unit {0}

-- of every run from a set-up with a fresh state; after a set-up that is done no call earns 7
abbrev pub TimesRight : {S : Type 0} → Form S → Type 0
TimesRight {S} F =
    (s : S) (site : Site) → East site → (set_up F s site).answer ≡ Ok tt
    → (cs : List Call) (rs : List (After S Stamped)) → Played F (set_up F s site).table fresh cs rs
    → FirstTrue cs rs → NeverBack 0 cs → NoneFar None cs rs → Right F cs rs
