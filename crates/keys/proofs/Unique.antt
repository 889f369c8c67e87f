-- Each public function has one answer: two that satisfy its contract both equal its definition.
-- Assumes nothing.
use mathlib.Core.Path.{sym, ◌∙◌}
use Rattle.refusals.specs.Answers.{OneAnswer}
use Rattle.keys.proofs.kind_at.Kinds as kind-at-kinds
use Rattle.keys.proofs.kind_at.Reads as kind_at
use Rattle.keys.proofs.is_kind.Kinds as is-kind-kinds
use Rattle.keys.proofs.is_kind.Reads as is-kind
use Rattle.keys.proofs.is_traffic.Kinds as is-traffic-kinds
use Rattle.keys.proofs.is_traffic.Reads as is-traffic
use Rattle.keys.proofs.kind_in.Kinds as kind-in-kinds
use Rattle.keys.proofs.kind_in.Reads as kind-in
use Rattle.keys.proofs.letter_in.Kinds as letter-in-kinds
use Rattle.keys.proofs.letter_in.Reads as letter-in
use Rattle.keys.proofs.traffic_in.Kinds as traffic-in-kinds
use Rattle.keys.proofs.traffic_in.Reads as traffic-in
use Rattle.keys.proofs.key_for.Kinds as key-for-kinds
use Rattle.keys.proofs.key_for.Reads as key-for
use Rattle.keys.proofs.address_in.Kinds as address-in-kinds
use Rattle.keys.proofs.address_in.Reads as address-in
use Rattle.keys.proofs.is_key.Kinds as is-key-kinds
use Rattle.keys.proofs.is_key.Reads as is_key
use Rattle.keys.proofs.is_coarse.Kinds as is-coarse-kinds
use Rattle.keys.proofs.is_coarse.Reads as is-coarse
use Rattle.keys.proofs.coarse_in.Kinds as coarse-in-kinds
use Rattle.keys.proofs.coarse_in.Reads as coarse-in
use Rattle.keys.proofs.flag_in.Kinds as flag-in-kinds
use Rattle.keys.proofs.flag_in.Reads as flag-in
use Rattle.keys.proofs.station_in.Kinds as station-in-kinds
use Rattle.keys.proofs.station_in.Reads as station-in

pub kind_at_once : OneAnswer 0 kind-at-kinds.ps kind-at-kinds.r kind_at.Post
kind_at_once κs args x y left left' p q = p ∙ sym q

pub is_kind_once : OneAnswer 0 is-kind-kinds.ps is-kind-kinds.r is-kind.Post
is_kind_once κs args x y left left' p q = p ∙ sym q

pub is_traffic_once : OneAnswer 0 is-traffic-kinds.ps is-traffic-kinds.r is-traffic.Post
is_traffic_once κs args x y left left' p q = p ∙ sym q

pub kind_in_once : OneAnswer 0 kind-in-kinds.ps kind-in-kinds.r kind-in.Post
kind_in_once κs args x y left left' p q = p ∙ sym q

pub letter_in_once : OneAnswer 0 letter-in-kinds.ps letter-in-kinds.r letter-in.Post
letter_in_once κs args x y left left' p q = p ∙ sym q

pub traffic_in_once : OneAnswer 0 traffic-in-kinds.ps traffic-in-kinds.r traffic-in.Post
traffic_in_once κs args x y left left' p q = p ∙ sym q

pub key_for_once : OneAnswer 0 key-for-kinds.ps key-for-kinds.r key-for.Post
key_for_once κs args x y left left' p q = p ∙ sym q

pub address_in_once : OneAnswer 0 address-in-kinds.ps address-in-kinds.r address-in.Post
address_in_once κs args x y left left' p q = p ∙ sym q

pub is_key_once : OneAnswer 0 is-key-kinds.ps is-key-kinds.r is_key.Post
is_key_once κs args x y left left' p q = p ∙ sym q

pub is_coarse_once : OneAnswer 0 is-coarse-kinds.ps is-coarse-kinds.r is-coarse.Post
is_coarse_once κs args x y left left' p q = p ∙ sym q

pub coarse_in_once : OneAnswer 0 coarse-in-kinds.ps coarse-in-kinds.r coarse-in.Post
coarse_in_once κs args x y left left' p q = p ∙ sym q

pub flag_in_once : OneAnswer 0 flag-in-kinds.ps flag-in-kinds.r flag-in.Post
flag_in_once κs args x y left left' p q = p ∙ sym q

pub station_in_once : OneAnswer 0 station-in-kinds.ps station-in-kinds.r station-in.Post
station_in_once κs args x y left left' p q = p ∙ sym q
