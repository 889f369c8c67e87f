-- Each public function has one answer, with what the lent arrays hold afterwards: two that satisfy its contract both equal its definition.
-- Assumes nothing.
use mathlib.Core.Path.{sym, ◌∙◌}
use Rattle.refusals.specs.Answers.{OneAnswer, OneOutcome}
use Rattle.whole.specs.Whole.{Left, left}
use Rattle.whole.proofs.has_room.Kinds as has-room-kinds
use Rattle.whole.proofs.has_room.Reads as has_room
use Rattle.whole.proofs.listing.Kinds as listing-kinds
use Rattle.whole.proofs.listing.Reads as listing

pub has_room_once : OneAnswer 1 has-room-kinds.ps has-room-kinds.r has_room.Post
has_room_once κs args x y lefts lefts' p q = p ∙ sym q

pub listing_once : OneOutcome 3 listing-kinds.ps listing-kinds.r Left (λ κs x lefts. left x lefts.1.1.1.0.now lefts.1.1.1.1.0.now) listing.Post
listing_once κs args x y lefts lefts' p q = p ∙ sym q
