-- RULES 18.2 and 18.4: tables side by side: whatever one table would answer and hold for an aircraft, a table that is handed its messages alone, and a tick before it is read, answers and holds too, unless either answered 6 to it.
use Rattle.std.specs.Prelude.{ℕ, ◌≤◌, Bool, false, cond, not, ◌&&◌, ◌≡◌, List, [], ◌∷◌, ltb, Result, Ok}
use Rattle.whereabouts.specs.declared.Site.{Site}
use Rattle.rules.specs.Form.{Form, East}
use Rattle.rules.specs.Rules.{After, set_up, looked_up}
use Rattle.rules.specs.View.{view}
use Rattle.isolation.specs.Runs.{Call, own, Rule, call, NeverFull}
use Rattle.isolation.specs.Logs.{left}
use Rattle.isolation.specs.Played.{left_by}
use Rattle.messages.specs.declared.Message.{Message}
use Rattle.refusals.specs.declared.Refusal.{Refusal}

-- ---- the times of a run, from a clock on

-- a call is late if its time is below the clock, which it then leaves; else the clock takes its time
abbrev pub late : ℕ → Call → Bool
late clock c = ltb c.time clock

abbrev pub ticked : ℕ → Call → ℕ
ticked clock c = cond (late clock c) clock c.time

-- the clock at its end: the latest time
abbrev pub latest : ℕ → List Call → ℕ
latest clock [] = clock
latest clock (c ∷ cs) = latest (ticked clock c) cs

-- an aircraft's own calls that are not late, in order
abbrev pub heeds : ℕ → ℕ → Call → Bool
heeds key clock c = own key c && not (late clock c)

abbrev pub timely : ℕ → ℕ → List Call → List Call
timely key clock [] = []
timely key clock (c ∷ cs) = cond (heeds key clock c) (c ∷ timely key (ticked clock c) cs) (timely key (ticked clock c) cs)

-- ---- two runs that an aircraft can't tell apart at their end: its own calls that are not late are the same, and so is the latest time. Calls of others may be left out or put in, as many
-- as one likes and at any times, as long as an own call is not late in one run alone: such a call is left out of the other
pub record Sparse (key : ℕ) (xs ys : List Call) : Type 0 where
  pub calls : timely key 0 xs ≡ timely key 0 ys
  pub clock : latest 0 xs ≡ latest 0 ys

-- what is answered to its own calls that are not late, by the run's own clock. One that is late is answered 2, and does nothing
abbrev pub told : {S : Type 0} → Rule S → ℕ → ℕ → S → List Call → List (Result Message Refusal)
told rule key clock s [] = []
told rule key clock s (c ∷ cs) =
    let r = call rule s c in
    cond (heeds key clock c) (r.answer ∷ told rule key (ticked clock c) r.table cs) (told rule key (ticked clock c) r.table cs)

-- .. and of a run as it was played
abbrev pub told_by : {S A : Type 0} → ℕ → ℕ → List Call → List (After S A) → List A
told_by key clock (c ∷ cs) (r ∷ rs) = cond (heeds key clock c) (r.answer ∷ told_by key (ticked clock c) cs rs) (told_by key (ticked clock c) cs rs)
told_by key clock [] rs = []
told_by key clock (c ∷ cs) [] = []

-- the same answers; and at the end the same clock, the same track or none in both, and the same answer to a question for it
pub record Same {S T : Type 0} (F : Form S) (G : Form T) (rule : Rule S) (rule' : Rule T) (key : ℕ) (s : S) (t : T) (xs ys : List Call) : Type 0 where
  pub answers : told rule key 0 s xs ≡ told rule' key 0 t ys
  pub clock : F.clock (left rule s xs) ≡ G.clock (left rule' t ys)
  pub track : view F (left rule s xs) key ≡ view G (left rule' t ys) key
  pub asked : looked_up F (left rule s xs) key ≡ looked_up G (left rule' t ys) key

-- .. and of two runs as they were played: they told the same, and so is what is then answered to a question for it
pub record SamePlayed {S T : Type 0} (F : Form S) (G : Form T) (key : ℕ) (s : S) (t : T) (xs ys : List Call) (ps : List (After S (Result Message Refusal))) (qs : List (After T (Result Message Refusal))) : Type 0 where
  pub answers : told_by key 0 xs ps ≡ told_by key 0 ys qs
  pub asked : looked_up F (left_by s ps) key ≡ looked_up G (left_by t qs) key

-- the statement, of two tables in any forms and of any sizes, whatever they held before
abbrev pub Shards : {S T : Type 0} → Form S → Form T → Rule S → Rule T → Type 0
Shards {S} {T} F G rule rule' =
    (key : ℕ) (site : Site) → East site → (s : S) (t : T) → (set_up F s site).answer ≡ Ok tt → (set_up G t site).answer ≡ Ok tt
    → (xs ys : List Call) → Sparse key xs ys
    → NeverFull rule key (set_up F s site).table xs → NeverFull rule' key (set_up G t site).table ys
    → Same F G rule rule' key (set_up F s site).table (set_up G t site).table xs ys

-- ---- where no call is late: the times of a merged run never go back

abbrev pub InOrder : ℕ → List Call → Type 0
InOrder clock [] = Unit {0}
InOrder clock (c ∷ cs) = (clock ≤ c.time) × InOrder c.time cs

-- all of its own calls
abbrev pub own_calls : ℕ → List Call → List Call
own_calls key [] = []
own_calls key (c ∷ cs) = cond (own key c) (c ∷ own_calls key cs) (own_calls key cs)
