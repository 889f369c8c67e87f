-- Each public function has one answer: two that satisfy its contract both equal its definition.
-- Assumes nothing.
use Prim.Native.Nat.{ℕ}
use mathlib.Core.Path.{sym, ◌∙◌}
use mathlib.Core.List.{List}
use Rattle.refusals.specs.Answers.{OneAnswer, OneOutcome}
use Rattle.fields.proofs.number_of.Kinds as number-of-kinds
use Rattle.fields.proofs.number_of.Reads as number_of_lem
use Rattle.fields.proofs.put_number.Kinds as put-number-kinds
use Rattle.fields.proofs.put_number.Reads as put-number

pub number_of_once : OneAnswer 1 number-of-kinds.ps number-of-kinds.r number_of_lem.Post
number_of_once κs args x y left left' p q = p ∙ sym q

pub put_number_once : OneOutcome 1 put-number-kinds.ps put-number-kinds.r (List ℕ) (λ κs x left. left.0.now) put-number.Post
put_number_once κs args x y left left' p q = p ∙ sym q
