-- RULES 1.4: a run as what its calls answered and left, whoever made them.
use Rattle.std.specs.Prelude.{ℕ, true, ◌≡◌, List, [], ◌∷◌, Result, Err}
use Rattle.refusals.specs.declared.Refusal.TheVariants.{Full}
use Rattle.rules.specs.Form.{Form}
use Rattle.rules.specs.Rules.{After}
use Rattle.isolation.specs.Runs.{Call, own, Seen, saw}
use Rattle.messages.specs.declared.Message.{Message}
use Rattle.refusals.specs.declared.Refusal.{Refusal}

-- the table that the last of them left
abbrev pub left_by : {S : Type 0} → S → List (After S (Result Message Refusal)) → S
left_by s [] = s
left_by s (r ∷ rs) = left_by r.table rs

-- what an aircraft sees of it, and that 6 was answered to none of its messages
abbrev pub shown : {S : Type 0} → Form S → ℕ → List Call → List (After S (Result Message Refusal)) → List Seen
shown F key (c ∷ cs) (r ∷ rs) = saw F key c r ∷ shown F key cs rs
shown F key [] rs = []
shown F key (c ∷ cs) [] = []

abbrev pub NotFull : {S : Type 0} → ℕ → List Call → List (After S (Result Message Refusal)) → Type 0
NotFull key (c ∷ cs) (r ∷ rs) = (own key c ≡ true → r.answer ≡ Err Full → ⊥) × NotFull key cs rs
NotFull key [] rs = Unit {0}
NotFull key (c ∷ cs) [] = Unit {0}
