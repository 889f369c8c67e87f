-- Each public function has one answer: two that satisfy its contract both equal its definition.
-- Assumes nothing.
use mathlib.Core.Path.{sym, ◌∙◌}
use Rattle.refusals.specs.Answers.{OneAnswer}
use Rattle.layouts.proofs.airborne.airborne_of.Kinds as airborne-of-kinds
use Rattle.layouts.proofs.airborne.airborne_of.Reads as airborne-of
use Rattle.layouts.proofs.bodies.body_by.Kinds as body-by-kinds
use Rattle.layouts.proofs.bodies.body_by.Reads as body-by
use Rattle.layouts.proofs.bodies.is_coarse.Kinds as is-coarse-kinds
use Rattle.layouts.proofs.bodies.is_coarse.Reads as is-coarse
use Rattle.layouts.proofs.bodies.is_layout.Kinds as is-layout-kinds
use Rattle.layouts.proofs.bodies.is_layout.Reads as is-layout
use Rattle.layouts.proofs.bodies.is_taken.Kinds as is-taken-kinds
use Rattle.layouts.proofs.bodies.is_taken.Reads as is-taken
use Rattle.layouts.proofs.bodies.layout_by.Kinds as layout-by-kinds
use Rattle.layouts.proofs.bodies.layout_by.Reads as layout-by
use Rattle.layouts.proofs.bodies.layout_of.Kinds as layout-of-kinds
use Rattle.layouts.proofs.bodies.layout_of.Reads as layout_of
use Rattle.layouts.proofs.bodies.me_of.Kinds as me-of-kinds
use Rattle.layouts.proofs.bodies.me_of.Reads as me-of
use Rattle.layouts.proofs.bodies.type_of.Kinds as type-of-kinds
use Rattle.layouts.proofs.bodies.type_of.Reads as type-of
use Rattle.layouts.proofs.bodies.type_by.Kinds as type-by-kinds
use Rattle.layouts.proofs.bodies.type_by.Reads as type-by
use Rattle.layouts.proofs.bodies.is_position.Kinds as is-position-kinds
use Rattle.layouts.proofs.bodies.is_position.Reads as is-position
use Rattle.layouts.proofs.bodies.flag_in.Kinds as flag-in-kinds
use Rattle.layouts.proofs.bodies.flag_in.Reads as flag-in
use Rattle.layouts.proofs.bodies.flag_of.Kinds as flag-of-kinds
use Rattle.layouts.proofs.bodies.flag_of.Reads as flag-of
use Rattle.layouts.proofs.bodies.station_in.Kinds as station-in-kinds
use Rattle.layouts.proofs.bodies.station_in.Reads as station-in
use Rattle.layouts.proofs.bodies.station_of.Kinds as station-of-kinds
use Rattle.layouts.proofs.bodies.station_of.Reads as station-of
use Rattle.layouts.proofs.coarse.coarse_of.Kinds as coarse-of-kinds
use Rattle.layouts.proofs.coarse.coarse_of.Reads as coarse-of
use Rattle.layouts.proofs.coarse.coarse_fits.Kinds as coarse-fits-kinds
use Rattle.layouts.proofs.coarse.coarse_fits.Reads as coarse-fits
use Rattle.layouts.proofs.surface.surface_of.Kinds as surface-of-kinds
use Rattle.layouts.proofs.surface.surface_of.Reads as surface-of
use Rattle.layouts.proofs.airborne.airborne_fits.Kinds as airborne-fits-kinds
use Rattle.layouts.proofs.airborne.airborne_fits.Reads as airborne-fits
use Rattle.layouts.proofs.identification.identification_of.Kinds as identification-of-kinds
use Rattle.layouts.proofs.identification.identification_of.Reads as identification-of
use Rattle.layouts.proofs.identification.identification_fits.Kinds as identification-fits-kinds
use Rattle.layouts.proofs.identification.identification_fits.Reads as identification-fits
use Rattle.layouts.proofs.surface.surface_fits.Kinds as surface-fits-kinds
use Rattle.layouts.proofs.surface.surface_fits.Reads as surface-fits
use Rattle.layouts.proofs.status.status_of.Kinds as status-of-kinds
use Rattle.layouts.proofs.status.status_of.Reads as status-of
use Rattle.layouts.proofs.status.status_fits.Kinds as status-fits-kinds
use Rattle.layouts.proofs.status.status_fits.Reads as status-fits
use Rattle.layouts.proofs.velocity.ground_of.Kinds as ground-of-kinds
use Rattle.layouts.proofs.velocity.ground_of.Reads as ground-of
use Rattle.layouts.proofs.velocity.air_of.Kinds as air-of-kinds
use Rattle.layouts.proofs.velocity.air_of.Reads as air-of
use Rattle.layouts.proofs.velocity.ground_fits.Kinds as ground-fits-kinds
use Rattle.layouts.proofs.velocity.ground_fits.Reads as ground-fits
use Rattle.layouts.proofs.velocity.air_fits.Kinds as air-fits-kinds
use Rattle.layouts.proofs.velocity.air_fits.Reads as air-fits

pub body_by_once : OneAnswer 0 body-by-kinds.ps body-by-kinds.r body-by.Post
body_by_once κs args x y left left' p q = p ∙ sym q

pub me_of_once : OneAnswer 0 me-of-kinds.ps me-of-kinds.r me-of.Post
me_of_once κs args x y left left' p q = p ∙ sym q

pub layout_of_once : OneAnswer 0 layout-of-kinds.ps layout-of-kinds.r layout_of.Post
layout_of_once κs args x y left left' p q = p ∙ sym q

pub is_taken_once : OneAnswer 0 is-taken-kinds.ps is-taken-kinds.r is-taken.Post
is_taken_once κs args x y left left' p q = p ∙ sym q

pub type_of_once : OneAnswer 0 type-of-kinds.ps type-of-kinds.r type-of.Post
type_of_once κs args x y left left' p q = p ∙ sym q

pub type_by_once : OneAnswer 0 type-by-kinds.ps type-by-kinds.r type-by.Post
type_by_once κs args x y left left' p q = p ∙ sym q

pub is_position_once : OneAnswer 0 is-position-kinds.ps is-position-kinds.r is-position.Post
is_position_once κs args x y left left' p q = p ∙ sym q

pub flag_in_once : OneAnswer 0 flag-in-kinds.ps flag-in-kinds.r flag-in.Post
flag_in_once κs args x y left left' p q = p ∙ sym q

pub flag_of_once : OneAnswer 0 flag-of-kinds.ps flag-of-kinds.r flag-of.Post
flag_of_once κs args x y left left' p q = p ∙ sym q

pub surface_of_once : OneAnswer 0 surface-of-kinds.ps surface-of-kinds.r surface-of.Post
surface_of_once κs args x y left left' p q = p ∙ sym q

pub airborne_of_once : OneAnswer 0 airborne-of-kinds.ps airborne-of-kinds.r airborne-of.Post
airborne_of_once κs args x y left left' p q = p ∙ sym q

pub airborne_fits_once : OneAnswer 0 airborne-fits-kinds.ps airborne-fits-kinds.r airborne-fits.Post
airborne_fits_once κs args x y left left' p q = p ∙ sym q

pub identification_of_once : OneAnswer 0 identification-of-kinds.ps identification-of-kinds.r identification-of.Post
identification_of_once κs args x y left left' p q = p ∙ sym q

pub identification_fits_once : OneAnswer 0 identification-fits-kinds.ps identification-fits-kinds.r identification-fits.Post
identification_fits_once κs args x y left left' p q = p ∙ sym q

pub surface_fits_once : OneAnswer 0 surface-fits-kinds.ps surface-fits-kinds.r surface-fits.Post
surface_fits_once κs args x y left left' p q = p ∙ sym q

pub status_of_once : OneAnswer 0 status-of-kinds.ps status-of-kinds.r status-of.Post
status_of_once κs args x y left left' p q = p ∙ sym q

pub status_fits_once : OneAnswer 0 status-fits-kinds.ps status-fits-kinds.r status-fits.Post
status_fits_once κs args x y left left' p q = p ∙ sym q

pub ground_of_once : OneAnswer 0 ground-of-kinds.ps ground-of-kinds.r ground-of.Post
ground_of_once κs args x y left left' p q = p ∙ sym q

pub air_of_once : OneAnswer 0 air-of-kinds.ps air-of-kinds.r air-of.Post
air_of_once κs args x y left left' p q = p ∙ sym q

pub ground_fits_once : OneAnswer 0 ground-fits-kinds.ps ground-fits-kinds.r ground-fits.Post
ground_fits_once κs args x y left left' p q = p ∙ sym q

pub air_fits_once : OneAnswer 0 air-fits-kinds.ps air-fits-kinds.r air-fits.Post
air_fits_once κs args x y left left' p q = p ∙ sym q

pub is_layout_once : OneAnswer 0 is-layout-kinds.ps is-layout-kinds.r is-layout.Post
is_layout_once κs args x y left left' p q = p ∙ sym q

pub layout_by_once : OneAnswer 0 layout-by-kinds.ps layout-by-kinds.r layout-by.Post
layout_by_once κs args x y left left' p q = p ∙ sym q

pub station_in_once : OneAnswer 0 station-in-kinds.ps station-in-kinds.r station-in.Post
station_in_once κs args x y left left' p q = p ∙ sym q

pub station_of_once : OneAnswer 0 station-of-kinds.ps station-of-kinds.r station-of.Post
station_of_once κs args x y left left' p q = p ∙ sym q

pub is_coarse_once : OneAnswer 0 is-coarse-kinds.ps is-coarse-kinds.r is-coarse.Post
is_coarse_once κs args x y left left' p q = p ∙ sym q

pub coarse_of_once : OneAnswer 0 coarse-of-kinds.ps coarse-of-kinds.r coarse-of.Post
coarse_of_once κs args x y left left' p q = p ∙ sym q

pub coarse_fits_once : OneAnswer 0 coarse-fits-kinds.ps coarse-fits-kinds.r coarse-fits.Post
coarse_fits_once κs args x y left left' p q = p ∙ sym q
