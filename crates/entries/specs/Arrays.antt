-- RULES 20.1: what a lent array holds afterwards.
use Rattle.std.specs.Prelude.{ℕ, zero, suc, List, [], ◌∷◌}

-- an array of n entries: the values, then zeros
abbrev pub filled : ℕ → List ℕ → List ℕ
filled zero values = []
filled (suc n) [] = 0 ∷ filled n []
filled (suc n) (x ∷ values) = x ∷ filled n values

-- likewise of entries of any type, with one of them in place of 0
abbrev pub filled_by : {A : Type 0} → A → ℕ → List A → List A
filled_by rest zero values = []
filled_by rest (suc n) [] = rest ∷ filled_by rest n []
filled_by rest (suc n) (x ∷ values) = x ∷ filled_by rest n values
