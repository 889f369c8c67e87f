-- Each public function has one answer: two that satisfy its contract both equal its definition.
-- Assumes nothing.
use mathlib.Core.Path.{sym, ◌∙◌}
use Rattle.refusals.specs.Answers.{OneAnswer}
use Rattle.positions.proofs.encode.Kinds as encode-kinds
use Rattle.positions.proofs.encode.Reads as encode
use Rattle.positions.proofs.pole_to_pole.Kinds as pole-to-pole-kinds
use Rattle.positions.proofs.pole_to_pole.Reads as pole-to-pole
use Rattle.positions.proofs.pair.Kinds as pair-kinds
use Rattle.positions.proofs.pair.Reads as pair
use Rattle.positions.proofs.single.Kinds as single-kinds
use Rattle.positions.proofs.single.Reads as single

pub encode_once : OneAnswer 0 encode-kinds.ps encode-kinds.r encode.Post
encode_once κs args x y left left' p q = p ∙ sym q

pub pair_once : OneAnswer 0 pair-kinds.ps pair-kinds.r pair.Post
pair_once κs args x y left left' p q = p ∙ sym q

pub single_once : OneAnswer 0 single-kinds.ps single-kinds.r single.Post
single_once κs args x y left left' p q = p ∙ sym q

pub pole_to_pole_once : OneAnswer 0 pole-to-pole-kinds.ps pole-to-pole-kinds.r pole-to-pole.Post
pole_to_pole_once κs args x y left left' p q = p ∙ sym q
