-- What the proofs say of runs: a run in which each call did what a rule says. No promise cites this file.
use Rattle.std.specs.Prelude.{◌≡◌, List, [], ◌∷◌, Result}
use Rattle.rules.specs.Rules.{After}
use Rattle.isolation.specs.Runs.{Call, Rule, call}
use Rattle.messages.specs.declared.Message.{Message}
use Rattle.refusals.specs.declared.Refusal.{Refusal}

-- each call did what a rule says, to the table that the one before it left
abbrev pub Played : {S : Type 0} → Rule S → S → List Call → List (After S (Result Message Refusal)) → Type 0
Played rule s [] [] = Unit {0}
Played rule s (c ∷ cs) (r ∷ rs) = (r ≡ call rule s c) × Played rule r.table cs rs
Played rule s [] (r ∷ rs) = ⊥
Played rule s (c ∷ cs) [] = ⊥
