-- The public function has one answer, with what the buffer holds afterwards: two that satisfy its contract both equal its definition.
-- Assumes nothing.
use mathlib.Core.Path.{sym, ◌∙◌}
use Rattle.refusals.specs.Answers.{OneOutcome}
use Rattle.merge.specs.Merged.{Left, left}
use Rattle.merge.proofs.merge.Kinds as merge-kinds
use Rattle.merge.proofs.merge.Reads as merge

pub merge_once : OneOutcome 3 merge-kinds.ps merge-kinds.r Left (λ κs x lefts. left x lefts.1.1.0.now) merge.Post
merge_once κs args x y lefts lefts' p q = p ∙ sym q
