-- What the clauses of walked contracts say, alone and together. The contract of a walked function is a clause in the logic of each model, and not a type as a covered one's is; so what follows from it is said there, as a fact.
-- Assumes nothing.
use seplogic.Ra.Ura.{Ura}
use base.Logic.{SProp, ent, sep, via, id⊢, fst∗, snd∗}
use contract.Monad.{fact, fact_i, fact_use}

module _ {M : Type 1} (𝓤 : Ura M) where
  pub so_too : (p r : Type 0) → (p → r) → ent 𝓤 (fact 𝓤 p) (fact 𝓤 r)
  so_too p r f = fact_use 𝓤 p (id⊢ 𝓤 (fact 𝓤 p)) (λ x. fact_i 𝓤 r (fact 𝓤 p) (f x))

  pub both_say : (P Q : SProp 𝓤) (p q r : Type 0) → ent 𝓤 P (fact 𝓤 p) → ent 𝓤 Q (fact 𝓤 q) → (p → q → r) → ent 𝓤 (sep 𝓤 P Q) (fact 𝓤 r)
  both_say P Q p q r e f h = fact_use 𝓤 p (via 𝓤 P (fst∗ 𝓤 P Q) e) (λ x. fact_use 𝓤 q (via 𝓤 Q (snd∗ 𝓤 P Q) f) (λ y. fact_i 𝓤 r (sep 𝓤 P Q) (h x y)))
