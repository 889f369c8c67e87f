-- Each public function has one answer: two that satisfy its contract both equal its definition.
-- Assumes nothing.
use mathlib.Core.Path.{sym, ◌∙◌}
use Rattle.refusals.specs.Answers.{OneAnswer}
use Rattle.slice_places.proofs.ranges.is_held.Kinds as is-held-kinds
use Rattle.slice_places.proofs.ranges.is_held.Reads as is_held_lem
use Rattle.slice_places.proofs.ranges.has_key.Kinds as has-key-kinds
use Rattle.slice_places.proofs.ranges.has_key.Reads as has_key_lem
use Rattle.slice_places.proofs.no_place.Kinds as no-place-kinds
use Rattle.slice_places.proofs.no_place.Reads as no_place
use Rattle.slice_places.proofs.places_fit.Kinds as places-fit-kinds
use Rattle.slice_places.proofs.places_fit.Reads as places-fit
use Rattle.slice_places.proofs.site_of.Kinds as site-of-kinds
use Rattle.slice_places.proofs.site_of.Reads as site-of
use Rattle.slice_places.proofs.seek.Kinds as seek-kinds
use Rattle.slice_places.proofs.seek.Reads as seek
use Rattle.slice_places.proofs.start.Kinds as start-kinds
use Rattle.slice_places.proofs.start.Reads as start
use Rattle.slice_places.proofs.look_at.Kinds as look-at-kinds
use Rattle.slice_places.proofs.look_at.Reads as look_at
use Rattle.slice_places.proofs.better_of.Kinds as better-of-kinds
use Rattle.slice_places.proofs.better_of.Reads as better-of
use Rattle.slice_places.proofs.arrivals.judge.Kinds as judge-kinds
use Rattle.slice_places.proofs.arrivals.judge.Reads as judge
use Rattle.slice_places.proofs.arrivals.sought_by.Kinds as sought-by-kinds
use Rattle.slice_places.proofs.arrivals.sought_by.Reads as sought-by
use Rattle.slice_places.proofs.arrivals.next_of.Kinds as next-of-kinds
use Rattle.slice_places.proofs.arrivals.next_of.Reads as next_of
use Rattle.slice_places.proofs.arrivals.turned_away.Kinds as turned-away-kinds
use Rattle.slice_places.proofs.arrivals.turned_away.Reads as turned-away

pub is_held_once : OneAnswer 0 is-held-kinds.ps is-held-kinds.r is_held_lem.Post
is_held_once κs args x y left left' p q = p ∙ sym q

pub has_key_once : OneAnswer 0 has-key-kinds.ps has-key-kinds.r has_key_lem.Post
has_key_once κs args x y left left' p q = p ∙ sym q

pub no_place_once : OneAnswer 0 no-place-kinds.ps no-place-kinds.r no_place.Post
no_place_once κs args x y left left' p q = p ∙ sym q

pub places_fit_once : OneAnswer 0 places-fit-kinds.ps places-fit-kinds.r places-fit.Post
places_fit_once κs args x y left left' p q = p ∙ sym q

pub site_of_once : OneAnswer 0 site-of-kinds.ps site-of-kinds.r site-of.Post
site_of_once κs args x y left left' p q = p ∙ sym q

pub seek_once : OneAnswer 0 seek-kinds.ps seek-kinds.r seek.Post
seek_once κs args x y left left' p q = p ∙ sym q

pub start_once : OneAnswer 0 start-kinds.ps start-kinds.r start.Post
start_once κs args x y left left' p q = p ∙ sym q

pub look_at_once : OneAnswer 0 look-at-kinds.ps look-at-kinds.r look_at.Post
look_at_once κs args x y left left' p q = p ∙ sym q

pub better_of_once : OneAnswer 0 better-of-kinds.ps better-of-kinds.r better-of.Post
better_of_once κs args x y left left' p q = p ∙ sym q

pub judge_once : OneAnswer 1 judge-kinds.ps judge-kinds.r judge.Post
judge_once κs args x y left left' p q = p ∙ sym q

pub sought_by_once : OneAnswer 0 sought-by-kinds.ps sought-by-kinds.r sought-by.Post
sought_by_once κs args x y left left' p q = p ∙ sym q

pub next_of_once : OneAnswer 0 next-of-kinds.ps next-of-kinds.r next_of.Post
next_of_once κs args x y left left' p q = p ∙ sym q

pub turned_away_once : OneAnswer 0 turned-away-kinds.ps turned-away-kinds.r turned-away.Post
turned_away_once κs args x y left left' p q = p ∙ sym q
