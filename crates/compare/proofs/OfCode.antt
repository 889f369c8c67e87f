-- What a check says, of the code: whatever meets the contract of `check` says it. By the laws of the definition that the contract names.
-- Assumes nothing.
use Rattle.std.specs.Prelude.{Option, Some, None, Result, Ok, Err}
use Prim.Native.Nat.{ℕ, ◌^◌, ◌≤◌, ◌<◌}
use mathlib.Core.Path.{◌≡◌, sym, ap, ap₂, ◌∙◌}
use mathlib.Core.List.{List}
use mathlib.Core.Bool.{false}
use mathlib.Core.Logic.{◌⊎◌, ◌↔◌}
use lib.ListN.{length}
use contract.Lifetimes.{Lfts}
use denote.Triple.Clauses.{AtExit}
use borrow.Fn.Kinds.{Dens, ended_of}
use Rattle.refusals.specs.declared.Refusal.{Refusal}
use Rattle.refusals.specs.declared.Refusal.TheVariants.{Log, Form}
use Rattle.form.specs.Form.{in_form}
use Rattle.compare.specs.Compared.{ours, records_of, checked}
use Rattle.compare.specs.Right.{Right, Faulty}
use Rattle.compare.proofs.Laws.{yes_exactly, fault_first, fourteen_exactly, sixteen_exactly, only_these, own_listing_yes}
use Rattle.compare.proofs.check.Kinds as check-kinds
use Rattle.compare.proofs.check.Reads as check

-- `check` was lent a capture and a listing
pub record Met (c l : List ℕ) (x : Result (Option ℕ) Refusal) : Type 0 where
  pub κs : Lfts 2
  pub args : Dens κs check-kinds.ps
  pub left : AtExit (ended_of 2 check-kinds.ps check-kinds.r) κs
  pub capture : args.0.now ≡ c
  pub listing : args.1.0.now ≡ l
  pub meets : check.Post κs args x left

module _ {c l : List ℕ} {x : Result (Option ℕ) Refusal} (m : Met c l x) where
  is_checked : x ≡ checked c l
  is_checked = m.meets ∙ ap₂ checked m.capture m.listing

  -- our own listing gets yes
  pub code_own_yes : l ≡ ours c → length c < 2 ^ 64 → records_of c ≤ 2900 → x ≡ Ok None
  code_own_yes e size few = is_checked ∙ ap (checked c) e ∙ own_listing_yes c size few

  pub code_yes_exactly : x ≡ Ok None ↔ Right c l
  code_yes_exactly = (λ e. (yes_exactly c l).0 (sym is_checked ∙ e), λ p. is_checked ∙ (yes_exactly c l).1 p)

  pub code_fault_first : {n : ℕ} → x ≡ Ok (Some n) → Faulty c l n
  code_fault_first e = fault_first c l (sym is_checked ∙ e)

  -- 14 for the capture, whatever the text, then 16 for the text; and no number but these
  pub code_fourteen : x ≡ Err Log ↔ 2900 < records_of c
  code_fourteen = (λ e. (fourteen_exactly c l).0 (sym is_checked ∙ e), λ p. is_checked ∙ (fourteen_exactly c l).1 p)

  pub code_sixteen : x ≡ Err Form ↔ (records_of c ≤ 2900) × (in_form l ≡ false)
  code_sixteen = (λ e. (sixteen_exactly c l).0 (sym is_checked ∙ e), λ p. is_checked ∙ (sixteen_exactly c l).1 p)

  pub code_only_these : {r : Refusal} → x ≡ Err r → (r ≡ Log) ⊎ (r ≡ Form)
  code_only_these e = only_these c l (sym is_checked ∙ e)
