-- Each public function has one answer: two that satisfy its contract both equal its definition.
-- Assumes nothing.
use mathlib.Core.Path.{sym, ◌∙◌}
use Rattle.refusals.specs.Answers.{OneAnswer}
use Rattle.messages.proofs.accept.Kinds as accept-kinds
use Rattle.messages.proofs.accept.Reads as accept
use Rattle.messages.proofs.coarse_by.Kinds as coarse-by-kinds
use Rattle.messages.proofs.coarse_by.Reads as coarse-by
use Rattle.messages.proofs.decode.Kinds as decode-kinds
use Rattle.messages.proofs.decode.Reads as decode
use Rattle.messages.proofs.head_taken.Kinds as head-taken-kinds
use Rattle.messages.proofs.head_taken.Reads as head-taken
use Rattle.messages.proofs.frame_coarse.Kinds as frame-coarse-kinds
use Rattle.messages.proofs.frame_coarse.Reads as frame-coarse
use Rattle.messages.proofs.frame_key.Kinds as frame-key-kinds
use Rattle.messages.proofs.frame_key.Reads as frame-key
use Rattle.messages.proofs.frame_starts.Kinds as frame-starts-kinds
use Rattle.messages.proofs.frame_starts.Reads as frame-starts
use Rattle.messages.proofs.is_traffic.Kinds as is-traffic-kinds
use Rattle.messages.proofs.is_traffic.Reads as is-traffic
use Rattle.messages.proofs.key_by.Kinds as key-by-kinds
use Rattle.messages.proofs.key_by.Reads as key-by
use Rattle.messages.proofs.key_of.Kinds as key-of-kinds
use Rattle.messages.proofs.key_of.Reads as key_of
use Rattle.messages.proofs.frame_in.Kinds as frame-in-kinds
use Rattle.messages.proofs.frame_in.Reads as frame-in
use Rattle.messages.proofs.traffic_by.Kinds as traffic-by-kinds
use Rattle.messages.proofs.traffic_by.Reads as traffic-by
use Rattle.messages.proofs.starts.Kinds as starts-kinds
use Rattle.messages.proofs.starts.Reads as starts

pub decode_once : OneAnswer 1 decode-kinds.ps decode-kinds.r decode.Post
decode_once κs args x y left left' p q = p ∙ sym q

pub head_taken_once : OneAnswer 0 head-taken-kinds.ps head-taken-kinds.r head-taken.Post
head_taken_once κs args x y left left' p q = p ∙ sym q

pub key_by_once : OneAnswer 0 key-by-kinds.ps key-by-kinds.r key-by.Post
key_by_once κs args x y left left' p q = p ∙ sym q

pub key_of_once : OneAnswer 0 key-of-kinds.ps key-of-kinds.r key_of.Post
key_of_once κs args x y left left' p q = p ∙ sym q

pub accept_once : OneAnswer 1 accept-kinds.ps accept-kinds.r accept.Post
accept_once κs args x y left left' p q = p ∙ sym q

pub frame_key_once : OneAnswer 0 frame-key-kinds.ps frame-key-kinds.r frame-key.Post
frame_key_once κs args x y left left' p q = p ∙ sym q

pub is_traffic_once : OneAnswer 0 is-traffic-kinds.ps is-traffic-kinds.r is-traffic.Post
is_traffic_once κs args x y left left' p q = p ∙ sym q

pub starts_once : OneAnswer 0 starts-kinds.ps starts-kinds.r starts.Post
starts_once κs args x y left left' p q = p ∙ sym q

pub frame_starts_once : OneAnswer 0 frame-starts-kinds.ps frame-starts-kinds.r frame-starts.Post
frame_starts_once κs args x y left left' p q = p ∙ sym q

pub frame_in_once : OneAnswer 1 frame-in-kinds.ps frame-in-kinds.r frame-in.Post
frame_in_once κs args x y left left' p q = p ∙ sym q

pub traffic_by_once : OneAnswer 0 traffic-by-kinds.ps traffic-by-kinds.r traffic-by.Post
traffic_by_once κs args x y left left' p q = p ∙ sym q

pub coarse_by_once : OneAnswer 0 coarse-by-kinds.ps coarse-by-kinds.r coarse-by.Post
coarse_by_once κs args x y left left' p q = p ∙ sym q

pub frame_coarse_once : OneAnswer 0 frame-coarse-kinds.ps frame-coarse-kinds.r frame-coarse.Post
frame_coarse_once κs args x y left left' p q = p ∙ sym q
