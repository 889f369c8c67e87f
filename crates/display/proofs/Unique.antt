-- Each function has one answer: two that satisfy its contract both equal its definition, with what the lent array holds afterwards.
-- Assumes nothing.
use mathlib.Core.Path.{sym, ◌∙◌}
use Rattle.refusals.specs.Answers.{OneOutcome}
use Rattle.entries.specs.Sent.{Sent, sent}
use Rattle.display.proofs.lines.addercoil_header.Kinds as header-kinds
use Rattle.display.proofs.lines.addercoil_header.Reads as header
use Rattle.display.proofs.lines.addercoil_line.Kinds as line-kinds
use Rattle.display.proofs.lines.addercoil_line.Reads as line
use Rattle.display.specs.Handed.{Handed, handed}
use Rattle.display.proofs.listing.addercoil_listing.Kinds as listing-kinds
use Rattle.display.proofs.listing.addercoil_listing.Reads as listing
use Rattle.display.proofs.tracks.addercoil_look_up.Kinds as look-up-kinds
use Rattle.display.proofs.tracks.addercoil_look_up.Reads as look_up

pub header_once : OneOutcome 2 header-kinds.ps header-kinds.r Sent (λ κs x left. sent x left.1.1.1.0.now) header.Post
header_once κs args x y left left' p q = p ∙ sym q

pub line_once : OneOutcome 2 line-kinds.ps line-kinds.r Sent (λ κs x left. sent x left.1.1.1.0.now) line.Post
line_once κs args x y left left' p q = p ∙ sym q

pub look_up_once : OneOutcome 2 look-up-kinds.ps look-up-kinds.r Sent (λ κs x left. sent x left.1.1.0.now) look_up.Post
look_up_once κs args x y left left' p q = p ∙ sym q

pub listing_once : OneOutcome 4 listing-kinds.ps listing-kinds.r Handed (λ κs x left. handed x left.1.1.1.0.now left.1.1.1.1.0.now left.1.1.1.1.1.0.now) listing.Post
listing_once κs args x y left left' p q = p ∙ sym q
