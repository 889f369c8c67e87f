-- Each public function has one answer: two that satisfy its contract both equal its definition.
-- Assumes nothing.
use mathlib.Core.Path.{sym, ◌∙◌}
use Rattle.refusals.specs.Answers.{OneAnswer}
use Rattle.signs.proofs.widen.Kinds as widen-kinds
use Rattle.signs.proofs.widen.Reads as widen
use Rattle.signs.proofs.is_below.Kinds as is-below-kinds
use Rattle.signs.proofs.is_below.Reads as is_below
use Rattle.signs.proofs.size_of.Kinds as size-of-kinds
use Rattle.signs.proofs.size_of.Reads as type_size
use Rattle.signs.proofs.raise.Kinds as raise-kinds
use Rattle.signs.proofs.raise.Reads as raise

pub widen_once : OneAnswer 0 widen-kinds.ps widen-kinds.r widen.Post
widen_once κs args x y left left' p q = p ∙ sym q

pub is_below_once : OneAnswer 0 is-below-kinds.ps is-below-kinds.r is_below.Post
is_below_once κs args x y left left' p q = p ∙ sym q

pub size_of_once : OneAnswer 0 size-of-kinds.ps size-of-kinds.r type_size.Post
size_of_once κs args x y left left' p q = p ∙ sym q

pub raise_once : OneAnswer 0 raise-kinds.ps raise-kinds.r raise.Post
raise_once κs args x y left left' p q = p ∙ sym q
