-- Each public function has one answer: two that satisfy its contract both equal its definition.
-- Assumes nothing.
use mathlib.Core.Path.{sym, ◌∙◌}
use Rattle.refusals.specs.Answers.{OneAnswer}
use Rattle.readings.proofs.altitude.altitude_of.Kinds as altitude-of-kinds
use Rattle.readings.proofs.altitude.altitude_of.Reads as altitude-of
use Rattle.readings.proofs.amounts.speed_of.Kinds as speed-of-kinds
use Rattle.readings.proofs.amounts.speed_of.Reads as speed-of
use Rattle.readings.proofs.amounts.rate_of.Kinds as rate-of-kinds
use Rattle.readings.proofs.amounts.rate_of.Reads as rate-of
use Rattle.readings.proofs.amounts.difference_of.Kinds as difference-of-kinds
use Rattle.readings.proofs.amounts.difference_of.Reads as difference-of
use Rattle.readings.proofs.coarse.coarse_speed_of.Kinds as coarse-speed-of-kinds
use Rattle.readings.proofs.coarse.coarse_speed_of.Reads as coarse-speed-of
use Rattle.readings.proofs.headings.angle_of.Kinds as angle-of-kinds
use Rattle.readings.proofs.headings.angle_of.Reads as angle-of
use Rattle.readings.proofs.headings.heading_of.Kinds as heading-of-kinds
use Rattle.readings.proofs.headings.heading_of.Reads as heading-of
use Rattle.readings.proofs.headings.surface_heading_of.Kinds as surface-heading-of-kinds
use Rattle.readings.proofs.headings.surface_heading_of.Reads as surface-heading-of
use Rattle.readings.proofs.movement.movement_of.Kinds as movement-of-kinds
use Rattle.readings.proofs.movement.movement_of.Reads as movement-of
use Rattle.readings.proofs.bodies.readings_in.Kinds as readings-in-kinds
use Rattle.readings.proofs.bodies.readings_in.Reads as readings-in
use Rattle.readings.proofs.bodies.readings_of.Kinds as readings-of-kinds
use Rattle.readings.proofs.bodies.readings_of.Reads as readings-of

pub altitude_of_once : OneAnswer 0 altitude-of-kinds.ps altitude-of-kinds.r altitude-of.Post
altitude_of_once κs args x y left left' p q = p ∙ sym q

pub speed_of_once : OneAnswer 0 speed-of-kinds.ps speed-of-kinds.r speed-of.Post
speed_of_once κs args x y left left' p q = p ∙ sym q

pub rate_of_once : OneAnswer 0 rate-of-kinds.ps rate-of-kinds.r rate-of.Post
rate_of_once κs args x y left left' p q = p ∙ sym q

pub difference_of_once : OneAnswer 0 difference-of-kinds.ps difference-of-kinds.r difference-of.Post
difference_of_once κs args x y left left' p q = p ∙ sym q

pub heading_of_once : OneAnswer 0 heading-of-kinds.ps heading-of-kinds.r heading-of.Post
heading_of_once κs args x y left left' p q = p ∙ sym q

pub surface_heading_of_once : OneAnswer 0 surface-heading-of-kinds.ps surface-heading-of-kinds.r surface-heading-of.Post
surface_heading_of_once κs args x y left left' p q = p ∙ sym q

pub movement_of_once : OneAnswer 0 movement-of-kinds.ps movement-of-kinds.r movement-of.Post
movement_of_once κs args x y left left' p q = p ∙ sym q

pub readings_of_once : OneAnswer 0 readings-of-kinds.ps readings-of-kinds.r readings-of.Post
readings_of_once κs args x y left left' p q = p ∙ sym q

pub readings_in_once : OneAnswer 0 readings-in-kinds.ps readings-in-kinds.r readings-in.Post
readings_in_once κs args x y left left' p q = p ∙ sym q

pub angle_of_once : OneAnswer 0 angle-of-kinds.ps angle-of-kinds.r angle-of.Post
angle_of_once κs args x y left left' p q = p ∙ sym q

pub coarse_speed_of_once : OneAnswer 0 coarse-speed-of-kinds.ps coarse-speed-of-kinds.r coarse-speed-of.Post
coarse_speed_of_once κs args x y left left' p q = p ∙ sym q
