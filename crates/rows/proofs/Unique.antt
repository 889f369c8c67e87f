-- Each public function has one answer: two that satisfy its contract both equal its definition. Of one that is lent an array to fill, the answer is with what that holds afterwards.
-- Assumes nothing.
use mathlib.Core.Path.{sym, ap₂, ◌∙◌}
use mathlib.Core.Bool.{Bool}
use mathlib.Core.List.{List}
use Prim.Native.Nat.{ℕ}
use Rattle.refusals.specs.Answers.{OneAnswer, OneOutcome}
use Rattle.rows.proofs.back.message_from.Kinds as message-from-kinds
use Rattle.rows.proofs.back.message_from.Reads as message-from
use Rattle.rows.proofs.message.put_me.Kinds as put-me-kinds
use Rattle.rows.proofs.message.put_me.Reads as put-me

pub message_from_once : OneAnswer 1 message-from-kinds.ps message-from-kinds.r message-from.Post
message_from_once κs args x y left left' p q = p ∙ sym q

pub put_me_once : OneOutcome 1 put-me-kinds.ps put-me-kinds.r (Bool × List ℕ) (λ κs x left. (x, left.0.now)) put-me.Post
put_me_once κs args x y left left' p q = ap₂ (λ (a : Bool) (b : List ℕ). (a, b)) (p.0 ∙ sym q.0) (p.1 ∙ sym q.1)
