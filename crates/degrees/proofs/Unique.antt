-- Each public function has one answer: two that satisfy its contract both equal its definition.
-- Assumes nothing.
use Rattle.std.proofs.Common.{sym, ◌∙◌}
use Rattle.refusals.specs.Answers.{OneAnswer}
use Rattle.degrees.proofs.to_degrees.Kinds as to-degrees-kinds
use Rattle.degrees.proofs.to_degrees.Reads as to_degrees
use Rattle.degrees.proofs.from_degrees.Kinds as from-degrees-kinds
use Rattle.degrees.proofs.from_degrees.Reads as from-degrees

pub to_degrees_once : OneAnswer 0 to-degrees-kinds.ps to-degrees-kinds.r to_degrees.Post
to_degrees_once κs args x y left left' p q = p ∙ sym q

pub from_degrees_once : OneAnswer 0 from-degrees-kinds.ps from-degrees-kinds.r from-degrees.Post
from_degrees_once κs args x y left left' p q = p ∙ sym q
