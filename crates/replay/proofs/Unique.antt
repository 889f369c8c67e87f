-- Each public function has one answer: two that satisfy its contract both equal its definition.
-- Assumes nothing.
use mathlib.Core.Path.{sym, ◌∙◌}
use Rattle.refusals.specs.Answers.{OneAnswer}
use Rattle.replay.proofs.is_log.Kinds as is-log-kinds
use Rattle.replay.proofs.is_log.Reads as is-log
use Rattle.replay.proofs.replay.Kinds as replay-kinds
use Rattle.replay.proofs.replay.Reads as replay

pub is_log_once : OneAnswer 0 is-log-kinds.ps is-log-kinds.r is-log.Post
is_log_once κs args x y left left' p q = p ∙ sym q

pub replay_once : OneAnswer 1 replay-kinds.ps replay-kinds.r replay.Post
replay_once κs args x y left left' p q = p ∙ sym q
