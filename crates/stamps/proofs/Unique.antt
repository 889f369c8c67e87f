-- Each public function has one answer: two that satisfy its contract both equal its definition. Of one that is lent a table, the answer is with the state and with what the table holds afterwards.
-- Assumes nothing.
use Rattle.std.proofs.Common.{sym, ◌∙◌}
use Rattle.refusals.specs.Answers.{OneAnswer, OneOutcome}
use Rattle.table.specs.Table.{After, after}
use Rattle.stamps.specs.declared.Noted.{Noted}
use Rattle.stamps.specs.declared.Stamped.{Stamped}
use Rattle.stamps.proofs.extend.Kinds as extend-kinds
use Rattle.stamps.proofs.extend.Reads as extend
use Rattle.stamps.proofs.hear.Kinds as hear-kinds
use Rattle.stamps.proofs.hear.Reads as hear
use Rattle.stamps.proofs.receive.Kinds as receive-kinds
use Rattle.stamps.proofs.receive.Reads as receive

pub extend_once : OneAnswer 0 extend-kinds.ps extend-kinds.r extend.Post
extend_once κs args x y left left' p q = p ∙ sym q

pub hear_once : OneOutcome 2 hear-kinds.ps hear-kinds.r (After Noted) (λ κs x left. after x left.0.now) hear.Post
hear_once κs args x y left left' p q = p ∙ sym q

pub receive_once : OneOutcome 2 receive-kinds.ps receive-kinds.r (After Stamped) (λ κs x left. after x left.0.now) receive.Post
receive_once κs args x y left left' p q = p ∙ sym q
