-- Each function has one answer: two that satisfy its contract both equal its definition, with what the lent arrays hold afterwards.
-- Assumes nothing.
use mathlib.Core.Path.{sym, ◌∙◌}
use Rattle.refusals.specs.Answers.{OneOutcome}
use Rattle.entries.specs.Sent.{Sent, sent}
use Rattle.dealer.specs.Joint.{Joint, joint}
use Rattle.dealer.proofs.key.addercoil_key.Kinds as key-kinds
use Rattle.dealer.proofs.key.addercoil_key.Reads as key
use Rattle.dealer.proofs.joint.addercoil_merge.Kinds as merge-kinds
use Rattle.dealer.proofs.joint.addercoil_merge.Reads as merge

pub key_once : OneOutcome 2 key-kinds.ps key-kinds.r Sent (λ κs x left. sent x left.1.0.now) key.Post
key_once κs args x y left left' p q = p ∙ sym q

pub merge_once : OneOutcome 4 merge-kinds.ps merge-kinds.r Joint (λ κs x left. joint x left.1.1.0.now left.1.1.1.0.now) merge.Post
merge_once κs args x y left left' p q = p ∙ sym q
