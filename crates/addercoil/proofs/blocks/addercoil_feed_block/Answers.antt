-- `addercoil::blocks::addercoil_feed_block` meets its contract: an array of a wrong length, or what the feeding answers and leaves.
use borrow.Author.Tests.{ne_eqb}
use Rattle.addercoil.proofs.Fed.{fed_on}
use Rattle.addercoil.proofs.blocks.addercoil_feed_block.Goals as goal

pub returns-then-out-ne1 : goal.returns-then-out-ne1
returns-then-out-ne1 c = rw (ne_eqb _ _ c.if-out-ne1.true)

pub returns : goal.returns
returns c = fed_on _ _ _ c.if-out-ne1.false c.give_fed.ensures c.feed_block.ensures
