-- RULES 1.6: what a contract of the slice says: its functions are over any model of memory, so that these are over a clause of a contract.
use Rattle.std.specs.Prelude.{◌≡◌}
use seplogic.Ra.Ura.{Ura}
use base.Logic.{ent, sep}
use contract.Lifetimes.{Lfts}
use contract.Monad.{fact}
use denote.Triple.Entry.{Args, Res}
use denote.Triple.Clauses.{Ended, Clauses, AtExit}

-- of a contract in a model, for the same arguments: two results that both satisfy its clause are one, in all that the caller sees of a call
abbrev pub OneSeen : {M : Type 1} (𝓤 : Ura M) (T : Ended) → Clauses 𝓤 T → (B : Type 0) → ((κs : Lfts T.signature.lifetimes) → Res T.signature κs → AtExit T κs → B) → Type 1
OneSeen 𝓤 T clauses B seen =
    (κs : Lfts T.signature.lifetimes) (a : Args T.signature κs) (g : (clauses κs a).ghost) (x y : Res T.signature κs) (left left' : AtExit T κs)
    → ent 𝓤 (sep 𝓤 ((clauses κs a).ensures g x left) ((clauses κs a).ensures g y left')) (fact 𝓤 (seen κs x left ≡ seen κs y left'))

-- of a contract in a model: what is said of the arguments and the result holds wherever they satisfy its clause
abbrev pub Promised : {M : Type 1} (𝓤 : Ura M) (T : Ended) → Clauses 𝓤 T → ((κs : Lfts T.signature.lifetimes) → Args T.signature κs → Res T.signature κs → Type 0) → Type 1
Promised 𝓤 T clauses says =
    (κs : Lfts T.signature.lifetimes) (a : Args T.signature κs) (g : (clauses κs a).ghost) (x : Res T.signature κs) (left : AtExit T κs)
    → ent 𝓤 ((clauses κs a).ensures g x left) (fact 𝓤 (says κs a x))
