-- The public function has one answer: two that satisfy its contract both equal its definition.
-- Assumes nothing.
use mathlib.Core.Path.{sym, ◌∙◌}
use Rattle.refusals.specs.Answers.{OneAnswer}
use Rattle.compare.proofs.check.Kinds as check-kinds
use Rattle.compare.proofs.check.Reads as check

pub check_once : OneAnswer 2 check-kinds.ps check-kinds.r check.Post
check_once κs args x y left left' p q = p ∙ sym q
