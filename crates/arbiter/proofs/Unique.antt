-- The function has one answer: two that satisfy its contract both equal its definition, with what the lent array holds afterwards.
-- Assumes nothing.
use mathlib.Core.Path.{sym, ◌∙◌}
use Rattle.refusals.specs.Answers.{OneOutcome}
use Rattle.entries.specs.Sent.{Sent, sent}
use Rattle.arbiter.proofs.addercoil_check.Kinds as check-kinds
use Rattle.arbiter.proofs.addercoil_check.Reads as check

pub check_once : OneOutcome 3 check-kinds.ps check-kinds.r Sent (λ κs x left. sent x left.1.1.0.now) check.Post
check_once κs args x y left left' p q = p ∙ sym q
