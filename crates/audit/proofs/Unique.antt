-- Each function has one answer: two that satisfy its contract both equal its definition, with what the lent array holds afterwards.
-- Assumes nothing.
use mathlib.Core.Path.{sym, ◌∙◌}
use Rattle.refusals.specs.Answers.{OneOutcome}
use Rattle.entries.specs.Sent.{Sent, sent}
use Rattle.audit.proofs.replays.addercoil_replay.Kinds as replay-kinds
use Rattle.audit.proofs.replays.addercoil_replay.Reads as replay
use Rattle.audit.proofs.replays.addercoil_replay_at.Kinds as replay-at-kinds
use Rattle.audit.proofs.replays.addercoil_replay_at.Reads as replay-at
use Rattle.audit.proofs.replays.addercoil_replay_coarse.Kinds as replay-coarse-kinds
use Rattle.audit.proofs.replays.addercoil_replay_coarse.Reads as replay-coarse

pub replay_once : OneOutcome 2 replay-kinds.ps replay-kinds.r Sent (λ κs x left. sent x left.1.1.1.0.now) replay.Post
replay_once κs args x y left left' p q = p ∙ sym q

pub replay_at_once : OneOutcome 2 replay-at-kinds.ps replay-at-kinds.r Sent (λ κs x left. sent x left.1.1.1.1.1.0.now) replay-at.Post
replay_at_once κs args x y left left' p q = p ∙ sym q

pub replay_coarse_once : OneOutcome 2 replay-coarse-kinds.ps replay-coarse-kinds.r Sent (λ κs x left. sent x left.1.1.1.1.0.now) replay-coarse.Post
replay_coarse_once κs args x y left left' p q = p ∙ sym q
