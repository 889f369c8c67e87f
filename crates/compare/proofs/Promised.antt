-- What the contract promises in the rules' terms: whatever meets the contract of `check` says 14, then 16, or what the comparison gives, 0 or a line. The definition of specs/Said carries each case of the answer over.
-- Assumes nothing.
use Rattle.std.specs.Prelude.{Option, Result, Err}
use Prim.Native.Nat.{ℕ}
use mathlib.Core.Path.{◌≡◌, refl, ap, ◌∙◌}
use mathlib.Core.Bool.{Bool, true, false, cond, not}
use mathlib.Core.List.{List}
use lib.Dec.{ltb}
use contract.Lifetimes.{Lfts}
use denote.Triple.Clauses.{AtExit}
use borrow.Fn.Kinds.{Dens, res_t, ended_of}
use Rattle.refusals.specs.declared.Refusal.TheVariants.{Log, Form}
use Rattle.refusals.specs.Said.{number}
use Rattle.form.specs.Form.{in_form}
use Rattle.compare.specs.Compared.{verdict, records_of, checked}
use Rattle.compare.specs.Said.{checked_said}
use Rattle.compare.proofs.check.Kinds as check-kinds
use Rattle.compare.proofs.check.Reads as check
use Rattle.refusals.specs.declared.Refusal.{Refusal}

check_says : (c l : List ℕ) → checked_said (checked c l) ≡ cond (ltb 2900 (records_of c)) (number 14) (cond (not (in_form l)) (number 16) (checked_said (verdict c l)))
unfolding checked
check_says c l = by_tests (ltb 2900 (records_of c)) (not (in_form l)) (verdict c l)
  where
    by_tests : (a b : Bool) (v : Result (Option ℕ) Refusal) → checked_said (cond a (Err Log) (cond b (Err Form) v)) ≡ cond a (number 14) (cond b (number 16) (checked_said v))
    by_tests true b v = refl
    by_tests false true v = refl
    by_tests false false v = refl

pub check_promised : (κs : Lfts 2) (args : Dens κs check-kinds.ps) (x : (res_t check-kinds.r κs).Denot)
    (left : AtExit (ended_of 2 check-kinds.ps check-kinds.r) κs) → check.Post κs args x left
    → checked_said x ≡ cond (ltb 2900 (records_of args.0.now)) (number 14) (cond (not (in_form args.1.0.now)) (number 16) (checked_said (verdict args.0.now args.1.0.now)))
check_promised κs args x left p = ap checked_said p ∙ check_says args.0.now args.1.0.now
