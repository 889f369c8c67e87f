-- Each public function has one answer: two that satisfy its contract both equal its definition.
-- Assumes nothing.
use mathlib.Core.Path.{sym, ◌∙◌}
use Rattle.refusals.specs.Answers.{OneAnswer}
use Rattle.whereabouts.proofs.no_position.Kinds as no-position-kinds
use Rattle.whereabouts.proofs.no_position.Reads as no-position
use Rattle.whereabouts.proofs.no_site.Kinds as no-site-kinds
use Rattle.whereabouts.proofs.no_site.Reads as no-site
use Rattle.whereabouts.proofs.pole_to_pole.Kinds as pole-to-pole-kinds
use Rattle.whereabouts.proofs.pole_to_pole.Reads as pole-to-pole
use Rattle.whereabouts.proofs.airborne_position.Kinds as airborne-position-kinds
use Rattle.whereabouts.proofs.airborne_position.Reads as airborne-position
use Rattle.whereabouts.proofs.surface_position.Kinds as surface-position-kinds
use Rattle.whereabouts.proofs.surface_position.Reads as surface-position

pub no_position_once : OneAnswer 0 no-position-kinds.ps no-position-kinds.r no-position.Post
no_position_once κs args x y left left' p q = p ∙ sym q

pub no_site_once : OneAnswer 0 no-site-kinds.ps no-site-kinds.r no-site.Post
no_site_once κs args x y left left' p q = p ∙ sym q

pub pole_to_pole_once : OneAnswer 0 pole-to-pole-kinds.ps pole-to-pole-kinds.r pole-to-pole.Post
pole_to_pole_once κs args x y left left' p q = p ∙ sym q

pub airborne_position_once : OneAnswer 0 airborne-position-kinds.ps airborne-position-kinds.r airborne-position.Post
airborne_position_once κs args x y left left' p q = p ∙ sym q

pub surface_position_once : OneAnswer 0 surface-position-kinds.ps surface-position-kinds.r surface-position.Post
surface_position_once κs args x y left left' p q = p ∙ sym q
