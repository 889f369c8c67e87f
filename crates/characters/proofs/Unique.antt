-- Each public function has one answer: two that satisfy its contract both equal its definition.
-- Assumes nothing.
use mathlib.Core.Path.{sym, ◌∙◌}
use Rattle.refusals.specs.Answers.{OneAnswer}
use Rattle.characters.proofs.category_set_of.Kinds as category-set-of-kinds
use Rattle.characters.proofs.category_set_of.Reads as category-set-of
use Rattle.characters.proofs.character_of.Kinds as character-of-kinds
use Rattle.characters.proofs.character_of.Reads as character-of
use Rattle.characters.proofs.set_at.Kinds as set-at-kinds
use Rattle.characters.proofs.set_at.Reads as set-at
use Rattle.characters.proofs.text_at.Kinds as text-at-kinds
use Rattle.characters.proofs.text_at.Reads as text-at
use Rattle.characters.proofs.text_of.Kinds as text-of-kinds
use Rattle.characters.proofs.text_of.Reads as text_of

pub category_set_of_once : OneAnswer 0 category-set-of-kinds.ps category-set-of-kinds.r category-set-of.Post
category_set_of_once κs args x y left left' p q = p ∙ sym q

pub character_of_once : OneAnswer 0 character-of-kinds.ps character-of-kinds.r character-of.Post
character_of_once κs args x y left left' p q = p ∙ sym q

pub text_of_once : OneAnswer 0 text-of-kinds.ps text-of-kinds.r text_of.Post
text_of_once κs args x y left left' p q = p ∙ sym q

pub set_at_once : OneAnswer 0 set-at-kinds.ps set-at-kinds.r set-at.Post
set_at_once κs args x y left left' p q = p ∙ sym q

pub text_at_once : OneAnswer 0 text-at-kinds.ps text-at-kinds.r text-at.Post
text_at_once κs args x y left left' p q = p ∙ sym q
