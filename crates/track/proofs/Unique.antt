-- Each public function has one answer: two that satisfy its contract both equal its definition.
-- Assumes nothing.
use mathlib.Core.Path.{sym, ◌∙◌}
use Rattle.refusals.specs.Answers.{OneAnswer}
use Rattle.track.proofs.held.is_in_date.Kinds as is-in-date-kinds
use Rattle.track.proofs.held.is_in_date.Reads as is-in-date
use Rattle.track.proofs.meaning.meant.Kinds as meant-kinds
use Rattle.track.proofs.meaning.meant.Reads as meant
use Rattle.track.proofs.new_track.Kinds as new-track-kinds
use Rattle.track.proofs.new_track.Reads as new-track
use Rattle.track.proofs.step.Kinds as step-kinds
use Rattle.track.proofs.step.Reads as step
use Rattle.track.proofs.step_me.Kinds as step-me-kinds
use Rattle.track.proofs.step_me.Reads as step-me

pub is_in_date_once : OneAnswer 0 is-in-date-kinds.ps is-in-date-kinds.r is-in-date.Post
is_in_date_once κs args x y left left' p q = p ∙ sym q

pub meant_once : OneAnswer 0 meant-kinds.ps meant-kinds.r meant.Post
meant_once κs args x y left left' p q = p ∙ sym q

pub new_track_once : OneAnswer 0 new-track-kinds.ps new-track-kinds.r new-track.Post
new_track_once κs args x y left left' p q = p ∙ sym q

pub step_once : OneAnswer 0 step-kinds.ps step-kinds.r step.Post
step_once κs args x y left left' p q = p ∙ sym q

pub step_me_once : OneAnswer 0 step-me-kinds.ps step-me-kinds.r step-me.Post
step_me_once κs args x y left left' p q = p ∙ sym q
