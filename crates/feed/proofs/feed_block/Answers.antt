-- `feed::feed_block` meets its contract: its two ways out are the definition's.
use mathlib.Core.Path.{sym, ◌∙◌}
use Rattle.feed.proofs.Ways.{whole, feed_block_size, feed_block_on}
use Rattle.feed.proofs.feed_block.Goals as goal

pub returns-in_default : goal.returns-in_default
returns-in_default c = feed_block_size _ _ _ _ (sym c.clock_of.ensures ∙ c.in_default.is)

pub returns : goal.returns
returns c =
    feed_block_on _ _ _ (whole _ _ (sym c.clock_of.ensures ∙ c.in-Ok.is)) c.take_block.ensures.0 c.count.ensures c.take_block.ensures.1
