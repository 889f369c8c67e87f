-- Each public function has one answer: two that satisfy its contract both equal its definition.
-- Assumes nothing.
use mathlib.Core.Path.{sym, ◌∙◌}
use Rattle.refusals.specs.Answers.{OneAnswer}
use Rattle.parity.proofs.remainder_of.Kinds as remainder-of-kinds
use Rattle.parity.proofs.remainder_of.Reads as remainder_of
use Rattle.parity.proofs.seal_of.Kinds as seal-of-kinds
use Rattle.parity.proofs.seal_of.Reads as seal-of
use Rattle.parity.proofs.lookup.shifted.Kinds as shifted-kinds
use Rattle.parity.proofs.lookup.shifted.Reads as shifted
use Rattle.parity.proofs.division.step.Kinds as step-kinds
use Rattle.parity.proofs.division.step.Reads as step

pub remainder_of_once : OneAnswer 1 remainder-of-kinds.ps remainder-of-kinds.r remainder_of.Post
remainder_of_once κs args x y left left' p q = p ∙ sym q

pub seal_of_once : OneAnswer 1 seal-of-kinds.ps seal-of-kinds.r seal-of.Post
seal_of_once κs args x y left left' p q = p ∙ sym q

pub step_once : OneAnswer 0 step-kinds.ps step-kinds.r step.Post
step_once κs args x y left left' p q = p ∙ sym q

pub shifted_once : OneAnswer 0 shifted-kinds.ps shifted-kinds.r shifted.Post
shifted_once κs args x y left left' p q = p ∙ sym q
