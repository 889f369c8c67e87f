-- Each public function has one answer: two that satisfy its contract both equal its definition. Of one that is lent a `&mut`, the answer is with what the table holds afterwards.
-- Assumes nothing.
use Rattle.std.specs.Prelude.{Result, ⊤}
use mathlib.Core.Path.{sym, ◌∙◌}
use Rattle.refusals.specs.Answers.{OneAnswer, OneOutcome}
use Rattle.table.specs.Table.{After, after}
use Rattle.table.proofs.set_up.Kinds as set-up-kinds
use Rattle.table.proofs.set_up.Reads as set-up
use Rattle.table.proofs.set_up_at.Kinds as set-up-at-kinds
use Rattle.table.proofs.set_up_at.Reads as set-up-at
use Rattle.table.proofs.hear.Kinds as hear-kinds
use Rattle.table.proofs.hear.Reads as hear
use Rattle.table.proofs.receive.Kinds as receive-kinds
use Rattle.table.proofs.receive.Reads as receive
use Rattle.table.proofs.look_up.Kinds as look-up-kinds
use Rattle.table.proofs.look_up.Reads as look_up
use Rattle.table.proofs.next.Kinds as next-kinds
use Rattle.table.proofs.next.Reads as next
use Rattle.table.proofs.clock_of.Kinds as clock-of-kinds
use Rattle.table.proofs.clock_of.Reads as clock-of
use Rattle.table.proofs.site_of.Kinds as site-of-kinds
use Rattle.table.proofs.site_of.Reads as site-of
use Rattle.messages.specs.declared.Message.{Message}
use Rattle.refusals.specs.declared.Refusal.{Refusal}

pub set_up_once : OneOutcome 1 set-up-kinds.ps set-up-kinds.r (After (Result ⊤ Refusal)) (λ κs x left. after x left.0.now) set-up.Post
set_up_once κs args x y left left' p q = p ∙ sym q

pub set_up_at_once : OneOutcome 1 set-up-at-kinds.ps set-up-at-kinds.r (After (Result ⊤ Refusal)) (λ κs x left. after x left.0.now) set-up-at.Post
set_up_at_once κs args x y left left' p q = p ∙ sym q

pub hear_once : OneOutcome 2 hear-kinds.ps hear-kinds.r (After (Result ⊤ Refusal)) (λ κs x left. after x left.0.now) hear.Post
hear_once κs args x y left left' p q = p ∙ sym q

pub receive_once : OneOutcome 2 receive-kinds.ps receive-kinds.r (After (Result Message Refusal)) (λ κs x left. after x left.0.now) receive.Post
receive_once κs args x y left left' p q = p ∙ sym q

pub look_up_once : OneAnswer 1 look-up-kinds.ps look-up-kinds.r look_up.Post
look_up_once κs args x y left left' p q = p ∙ sym q

pub next_once : OneAnswer 1 next-kinds.ps next-kinds.r next.Post
next_once κs args x y left left' p q = p ∙ sym q

pub clock_of_once : OneAnswer 1 clock-of-kinds.ps clock-of-kinds.r clock-of.Post
clock_of_once κs args x y left left' p q = p ∙ sym q

pub site_of_once : OneAnswer 1 site-of-kinds.ps site-of-kinds.r site-of.Post
site_of_once κs args x y left left' p q = p ∙ sym q
