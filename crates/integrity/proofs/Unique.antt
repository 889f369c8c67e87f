-- Each public function has one answer: two that satisfy its contract both equal its definition.
-- Assumes nothing.
use mathlib.Core.Path.{sym, ◌∙◌}
use Rattle.refusals.specs.Answers.{OneAnswer}
use Rattle.integrity.proofs.standard.version_of.Kinds as version-of-kinds
use Rattle.integrity.proofs.standard.version_of.Reads as version_of
use Rattle.integrity.proofs.standard.supplements_of.Kinds as supplements-of-kinds
use Rattle.integrity.proofs.standard.supplements_of.Reads as supplements-of
use Rattle.integrity.proofs.integrity_of.Kinds as integrity-of-kinds
use Rattle.integrity.proofs.integrity_of.Reads as integrity-of

pub version_of_once : OneAnswer 0 version-of-kinds.ps version-of-kinds.r version_of.Post
version_of_once κs args x y left left' p q = p ∙ sym q

pub supplements_of_once : OneAnswer 0 supplements-of-kinds.ps supplements-of-kinds.r supplements-of.Post
supplements_of_once κs args x y left left' p q = p ∙ sym q

pub integrity_of_once : OneAnswer 0 integrity-of-kinds.ps integrity-of-kinds.r integrity-of.Post
integrity_of_once κs args x y left left' p q = p ∙ sym q
