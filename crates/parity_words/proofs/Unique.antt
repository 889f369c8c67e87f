-- Each public function has one answer: two that satisfy its contract both equal its definition.
-- Assumes nothing.
use mathlib.Core.Path.{sym, ◌∙◌}
use Rattle.refusals.specs.Answers.{OneAnswer}
use Rattle.parity_words.proofs.remainder_of.Kinds as remainder-of-kinds
use Rattle.parity_words.proofs.remainder_of.Reads as remainder_of
use Rattle.parity_words.proofs.seal_by.Kinds as seal-by-kinds
use Rattle.parity_words.proofs.seal_by.Reads as seal-by
use Rattle.parity_words.proofs.seal_of.Kinds as seal-of-kinds
use Rattle.parity_words.proofs.seal_of.Reads as seal-of

pub remainder_of_once : OneAnswer 1 remainder-of-kinds.ps remainder-of-kinds.r remainder_of.Post
remainder_of_once κs args x y left left' p q = p ∙ sym q

pub seal_of_once : OneAnswer 1 seal-of-kinds.ps seal-of-kinds.r seal-of.Post
seal_of_once κs args x y left left' p q = p ∙ sym q

pub seal_by_once : OneAnswer 0 seal-by-kinds.ps seal-by-kinds.r seal-by.Post
seal_by_once κs args x y left left' p q = p ∙ sym q
