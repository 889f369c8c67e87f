-- How coarse an altitude is, over every code: the tests of the definition, one after the other, each with its own step behind it.
-- Assumes nothing.
use Rattle.std.specs.Prelude.{Option, Some, None, Result, Ok, Err}
use Prim.Native.Nat.{ℕ}
use mathlib.Core.Path.{◌≡◌, sym, ap, ◌∙◌}
use mathlib.Core.Bool.{Bool, true, false, cond, ◌||◌}
use lib.Dec.{eqb}
use lib.IntN.{ℤ}
use contract.Lifetimes.{Lfts}
use denote.Triple.Clauses.{AtExit}
use borrow.Fn.Kinds.{Dens, res_t, ended_of}
use Rattle.refusals.specs.declared.Refusal.TheVariants.{Field}
use Rattle.fields.specs.Packing.{wider}
use Rattle.readings.specs.Altitude.{bit, hundreds, known, altitude_at, altitude_of}
use Rattle.readings.specs.declared.altitude.Altitude.{Altitude}
use Rattle.refusals.specs.declared.Refusal.{Refusal}
use Rattle.readings.proofs.altitude.altitude_of.Kinds as altitude-of-kinds
use Rattle.readings.proofs.altitude.altitude_of.Reads as altitude-of

abbrev step_in : Result (Option Altitude) Refusal → ℕ
step_in (Ok (Some a)) = a.step
step_in (Ok None) = 0
step_in (Err r) = 0

-- of any two altitudes by Q, and tests for a code that is too wide, zero, or without hundreds
by_q : (wide zero none q : Bool) (fine coarse : ℤ) {z : ℤ} {step : ℕ}
    → ◌≡◌ {A = Result (Option Altitude) Refusal} (cond wide (Err Field) (Ok (cond zero None (cond q (known fine 25) (cond none None (known coarse 100)))))) (Ok (known z step))
    → step ≡ cond q 25 100
by_q true zero none q fine coarse e = cc
by_q false true none q fine coarse e = cc
by_q false false none true fine coarse e = sym (ap step_in e)
by_q false false true false fine coarse e = cc
by_q false false false false fine coarse e = sym (ap step_in e)

-- of every code whose altitude is known the step is 25 if Q is 1, and 100 if it is 0
pub step_by_q : (code : ℕ) {z : ℤ} {step : ℕ} → altitude_of code ≡ Ok (known z step) → step ≡ cond (eqb (bit 8 code) 1) 25 100
unfolding altitude_of altitude_at
step_by_q code e = by_q (wider 12 code) (eqb code 0) (eqb (hundreds code) 0 || eqb (hundreds code) 5 || eqb (hundreds code) 6) (eqb (bit 8 code) 1) _ _ e

-- and so of whatever meets the contract of `altitude_of`
pub step_promised : (κs : Lfts 0) (args : Dens κs altitude-of-kinds.ps) (x : (res_t altitude-of-kinds.r κs).Denot)
    (left : AtExit (ended_of 0 altitude-of-kinds.ps altitude-of-kinds.r) κs) → altitude-of.Post κs args x left
    → {z : ℤ} {step : ℕ} → x ≡ Ok (known z step) → step ≡ cond (eqb (bit 8 args.0) 1) 25 100
step_promised κs args x left p e = step_by_q args.0 (sym p ∙ e)
