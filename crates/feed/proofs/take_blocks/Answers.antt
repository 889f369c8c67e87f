-- `feed::take_blocks` meets its contract: before each turn the first k blocks have been taken, and their bad ones counted.
use mathlib.Core.Path.{◌≡◌, refl, ap, ◌∙◌}
use native.Mathlib.Omega.{arith}
use Rattle.feed.specs.Feed.{blocks_in, blocks_into, bad_in}
use Rattle.feed.proofs.Ways.{blocks_on, bad_on}
use borrow.Author.Rules.{rules}
use Rattle.feed.proofs.take_blocks.Goals as goal

pub loop-k-init : goal.loop-k-init
loop-k-init c = (refl, refl, refl)

pub loop-k-preserved : goal.loop-k-preserved
loop-k-preserved c =
    let a = c.args in
    (search rules, bad_on a.capture.now c.loop-k.k (omega arith) c.block_at.ensures c.take_block.ensures.0 c.loop-k.invariant.1 c.count-bad.ensures, blocks_on a.capture.now c.loop-k.k a.table.now c.block_at.ensures c.loop-k.invariant.2 c.take_block.ensures.1)

pub returns : goal.returns
returns c =
    let a = c.args in
    let e : c.loop-k.k ≡ blocks_in a.capture.now = omega (arith, c.blocks_in-n.ensures) in
    (c.loop-k.invariant.1 ∙ ap (bad_in a.capture.now) e, c.loop-k.invariant.2 ∙ ap (blocks_into a.table.now a.capture.now) e)
