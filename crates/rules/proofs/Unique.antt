-- Each public function has one answer: two that satisfy its contract both equal its definition.
-- Assumes nothing.
use mathlib.Core.Path.{sym, ◌∙◌}
use Rattle.refusals.specs.Answers.{OneAnswer}
use Rattle.rules.proofs.answers.key_or_end.Kinds as key-or-end-kinds
use Rattle.rules.proofs.answers.key_or_end.Reads as key-or-end
use Rattle.rules.proofs.answers.turned_away.Kinds as turned-away-kinds
use Rattle.rules.proofs.answers.turned_away.Reads as turned-away

pub key_or_end_once : OneAnswer 0 key-or-end-kinds.ps key-or-end-kinds.r key-or-end.Post
key_or_end_once κs args x y left left' p q = p ∙ sym q

pub turned_away_once : OneAnswer 0 turned-away-kinds.ps turned-away-kinds.r turned-away.Post
turned_away_once κs args x y left left' p q = p ∙ sym q
