-- The public function has one answer: two that satisfy its contract both equal its definition.
-- Assumes nothing.
use mathlib.Core.Path.{sym, ◌∙◌}
use Rattle.refusals.specs.Answers.{OneAnswer}
use Rattle.agree.proofs.agrees.Kinds as agrees-kinds
use Rattle.agree.proofs.agrees.Reads as agrees

pub agrees_once : OneAnswer 1 agrees-kinds.ps agrees-kinds.r agrees.Post
agrees_once κs args x y left left' p q = p ∙ sym q
