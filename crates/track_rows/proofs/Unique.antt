-- Each public function has one answer: two that satisfy its contract both equal its definition. Of one that is lent an array to fill, the answer is with what that holds afterwards.
-- Assumes nothing.
use mathlib.Core.Path.{sym, ◌∙◌}
use Rattle.refusals.specs.Answers.{OneAnswer, OneOutcome}
use Rattle.entries.specs.Sent.{Sent, sent}
use Rattle.track_rows.proofs.held.give_held.Kinds as give-held-kinds
use Rattle.track_rows.proofs.held.give_held.Reads as give-held
use Rattle.track_rows.proofs.tracks.track_values.Kinds as track-values-kinds
use Rattle.track_rows.proofs.tracks.track_values.Reads as track-values

pub give_held_once : OneOutcome 1 give-held-kinds.ps give-held-kinds.r Sent (λ κs x left. sent x left.0.now) give-held.Post
give_held_once κs args x y left left' p q = p ∙ sym q

pub track_values_once : OneAnswer 0 track-values-kinds.ps track-values-kinds.r track-values.Post
track_values_once κs args x y left left' p q = p ∙ sym q
