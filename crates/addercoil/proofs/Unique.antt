-- Each function has one answer: two that satisfy its contract both equal its definition. Of one that is lent an array to fill or a table to change, the answer is with what that holds afterwards.
-- Assumes nothing.
use mathlib.Core.Path.{sym, ◌∙◌}
use Rattle.refusals.specs.Answers.{OneAnswer, OneOutcome}
use Rattle.addercoil.specs.Figures.{Plotted, plotted}
use Rattle.addercoil.specs.Blocks.{Both, both}
use Rattle.entries.specs.Sent.{Sent, sent}
use Rattle.addercoil.proofs.version.addercoil_version.Kinds as version-kinds
use Rattle.addercoil.proofs.version.addercoil_version.Reads as version
use Rattle.addercoil.proofs.tables.addercoil_table_bytes.Kinds as table-bytes-kinds
use Rattle.addercoil.proofs.tables.addercoil_table_bytes.Reads as table_bytes
use Rattle.addercoil.proofs.tables.addercoil_set_up.Kinds as set-up-kinds
use Rattle.addercoil.proofs.tables.addercoil_set_up.Reads as set-up
use Rattle.addercoil.proofs.tables.addercoil_set_up_at.Kinds as set-up-at-kinds
use Rattle.addercoil.proofs.tables.addercoil_set_up_at.Reads as set-up-at
use Rattle.addercoil.proofs.tables.addercoil_receive.Kinds as receive-kinds
use Rattle.addercoil.proofs.tables.addercoil_receive.Reads as receive
use Rattle.addercoil.proofs.tables.addercoil_clock.Kinds as clock-kinds
use Rattle.addercoil.proofs.tables.addercoil_clock.Reads as clock
use Rattle.addercoil.proofs.tables.addercoil_site.Kinds as site-kinds
use Rattle.addercoil.proofs.tables.addercoil_site.Reads as site
use Rattle.addercoil.proofs.tables.addercoil_next.Kinds as next-kinds
use Rattle.addercoil.proofs.tables.addercoil_next.Reads as next
use Rattle.addercoil.proofs.blocks.addercoil_feed_block.Kinds as feed-block-kinds
use Rattle.addercoil.proofs.blocks.addercoil_feed_block.Reads as feed-block
use Rattle.addercoil.proofs.spots.addercoil_encode_position.Kinds as encode-position-kinds
use Rattle.addercoil.proofs.spots.addercoil_encode_position.Reads as encode-position
use Rattle.addercoil.proofs.spots.addercoil_encode_position_coarse.Kinds as encode-position-coarse-kinds
use Rattle.addercoil.proofs.spots.addercoil_encode_position_coarse.Reads as encode-position-coarse
use Rattle.addercoil.proofs.spots.addercoil_pair.Kinds as pair-kinds
use Rattle.addercoil.proofs.spots.addercoil_pair.Reads as pair
use Rattle.addercoil.proofs.spots.addercoil_pair_coarse.Kinds as pair-coarse-kinds
use Rattle.addercoil.proofs.spots.addercoil_pair_coarse.Reads as pair-coarse
use Rattle.addercoil.proofs.spots.addercoil_single.Kinds as single-kinds
use Rattle.addercoil.proofs.spots.addercoil_single.Reads as single
use Rattle.addercoil.proofs.spots.addercoil_single_coarse.Kinds as single-coarse-kinds
use Rattle.addercoil.proofs.spots.addercoil_single_coarse.Reads as single-coarse
use Rattle.addercoil.proofs.figures.addercoil_degrees.Kinds as degrees-kinds
use Rattle.addercoil.proofs.figures.addercoil_degrees.Reads as degrees
use Rattle.addercoil.proofs.figures.addercoil_from_degrees.Kinds as from-degrees-kinds
use Rattle.addercoil.proofs.figures.addercoil_from_degrees.Reads as from-degrees
use Rattle.addercoil.proofs.numbers.addercoil_decode.Kinds as decode-kinds
use Rattle.addercoil.proofs.numbers.addercoil_decode.Reads as decode
use Rattle.addercoil.proofs.me.addercoil_me.Kinds as me-kinds
use Rattle.addercoil.proofs.me.addercoil_me.Reads as me
use Rattle.addercoil.proofs.numbers.addercoil_encode.Kinds as encode-kinds
use Rattle.addercoil.proofs.numbers.addercoil_encode.Reads as encode
use Rattle.addercoil.proofs.stamped.addercoil_receive_stamp.Kinds as receive-stamp-kinds
use Rattle.addercoil.proofs.stamped.addercoil_receive_stamp.Reads as receive-stamp

pub version_once : OneAnswer 0 version-kinds.ps version-kinds.r version.Post
version_once κs args x y left left' p q = p ∙ sym q

pub table_bytes_once : OneAnswer 0 table-bytes-kinds.ps table-bytes-kinds.r table_bytes.Post
table_bytes_once κs args x y left left' p q = p ∙ sym q

pub set_up_once : OneOutcome 1 set-up-kinds.ps set-up-kinds.r Sent (λ κs x left. sent x left.0.now) set-up.Post
set_up_once κs args x y left left' p q = p ∙ sym q

pub set_up_at_once : OneOutcome 1 set-up-at-kinds.ps set-up-at-kinds.r Sent (λ κs x left. sent x left.0.now) set-up-at.Post
set_up_at_once κs args x y left left' p q = p ∙ sym q

pub receive_once : OneOutcome 2 receive-kinds.ps receive-kinds.r Sent (λ κs x left. sent x left.0.now) receive.Post
receive_once κs args x y left left' p q = p ∙ sym q

pub clock_once : OneOutcome 2 clock-kinds.ps clock-kinds.r Sent (λ κs x left. sent x left.1.0.now) clock.Post
clock_once κs args x y left left' p q = p ∙ sym q

pub site_once : OneOutcome 2 site-kinds.ps site-kinds.r Sent (λ κs x left. sent x left.1.0.now) site.Post
site_once κs args x y left left' p q = p ∙ sym q

pub next_once : OneOutcome 2 next-kinds.ps next-kinds.r Sent (λ κs x left. sent x left.1.1.0.now) next.Post
next_once κs args x y left left' p q = p ∙ sym q

pub encode_position_once : OneOutcome 1 encode-position-kinds.ps encode-position-kinds.r Sent (λ κs x left. sent x left.1.1.1.1.0.now) encode-position.Post
encode_position_once κs args x y left left' p q = p ∙ sym q

pub encode_position_coarse_once : OneOutcome 1 encode-position-coarse-kinds.ps encode-position-coarse-kinds.r Sent (λ κs x left. sent x left.1.1.1.0.now) encode-position-coarse.Post
encode_position_coarse_once κs args x y left left' p q = p ∙ sym q

pub pair_once : OneOutcome 1 pair-kinds.ps pair-kinds.r Sent (λ κs x left. sent x left.1.1.1.1.1.0.now) pair.Post
pair_once κs args x y left left' p q = p ∙ sym q

pub pair_coarse_once : OneOutcome 1 pair-coarse-kinds.ps pair-coarse-kinds.r Sent (λ κs x left. sent x left.1.1.1.1.1.0.now) pair-coarse.Post
pair_coarse_once κs args x y left left' p q = p ∙ sym q

pub single_once : OneOutcome 1 single-kinds.ps single-kinds.r Sent (λ κs x left. sent x left.1.1.1.1.1.1.0.now) single.Post
single_once κs args x y left left' p q = p ∙ sym q

pub single_coarse_once : OneOutcome 1 single-coarse-kinds.ps single-coarse-kinds.r Sent (λ κs x left. sent x left.1.1.1.1.1.0.now) single-coarse.Post
single_coarse_once κs args x y left left' p q = p ∙ sym q

pub degrees_once : OneOutcome 1 degrees-kinds.ps degrees-kinds.r Plotted (λ κs x left. plotted x left.1.1.0.now) degrees.Post
degrees_once κs args x y left left' p q = p ∙ sym q

pub from_degrees_once : OneOutcome 1 from-degrees-kinds.ps from-degrees-kinds.r Sent (λ κs x left. sent x left.1.1.0.now) from-degrees.Post
from_degrees_once κs args x y left left' p q = p ∙ sym q

pub feed_block_once : OneOutcome 3 feed-block-kinds.ps feed-block-kinds.r Both (λ κs x left. both (sent x left.1.1.1.0.now) left.0.now) feed-block.Post
feed_block_once κs args x y left left' p q = p ∙ sym q

pub decode_once : OneOutcome 2 decode-kinds.ps decode-kinds.r Sent (λ κs x left. sent x left.1.0.now) decode.Post
decode_once κs args x y left left' p q = p ∙ sym q

pub me_once : OneOutcome 1 me-kinds.ps me-kinds.r Sent (λ κs x left. sent x left.1.1.0.now) me.Post
me_once κs args x y left left' p q = p ∙ sym q

pub encode_once : OneOutcome 2 encode-kinds.ps encode-kinds.r Sent (λ κs x left. sent x left.1.0.now) encode.Post
encode_once κs args x y left left' p q = p ∙ sym q

pub receive_stamp_once : OneOutcome 3 receive-stamp-kinds.ps receive-stamp-kinds.r Both (λ κs x left. both (sent x left.1.1.1.0.now) left.0.now) receive-stamp.Post
receive_stamp_once κs args x y left left' p q = p ∙ sym q
