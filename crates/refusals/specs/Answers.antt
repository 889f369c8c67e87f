-- RULES 1.6: what every answer owes: to be the only one.
use Rattle.std.specs.Prelude.{ℕ, ◌≡◌, List}
use contract.Lifetimes.{Lfts}
use denote.Triple.Clauses.{AtExit}
use borrow.Fn.Kinds.{ParamKind, ResultKind, Out, Dens, res_t, ended_of}

-- Of a function's contract: two results that both satisfy it, for the same arguments and whatever it leaves behind references, are equal.
abbrev pub OneAnswer : (n : ℕ) (ps : List (ParamKind n)) (r : ResultKind n) → Out n ps r → Type 0
OneAnswer n ps r Ensures =
    (κs : Lfts n) (args : Dens κs ps) (x y : (res_t r κs).Denot) (left left' : AtExit (ended_of n ps r) κs)
    → Ensures κs args x left → Ensures κs args y left' → x ≡ y

-- The same of all that the caller sees of a call, as the result with what a `&mut` holds afterwards.
abbrev pub OneOutcome : (n : ℕ) (ps : List (ParamKind n)) (r : ResultKind n) (B : Type 0)
    → ((κs : Lfts n) → (res_t r κs).Denot → AtExit (ended_of n ps r) κs → B) → Out n ps r → Type 0
OneOutcome n ps r B seen Ensures =
    (κs : Lfts n) (args : Dens κs ps) (x y : (res_t r κs).Denot) (left left' : AtExit (ended_of n ps r) κs)
    → Ensures κs args x left → Ensures κs args y left' → seen κs x left ≡ seen κs y left'
