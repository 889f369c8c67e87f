-- `feed::feed` meets its contract: its two ways out are the definition's.
use mathlib.Core.Path.{sym, ◌∙◌}
use Rattle.feed.proofs.Ways.{whole, feed_size, feed_on}
use Rattle.feed.proofs.feed.Goals as goal

pub returns-in_default : goal.returns-in_default
returns-in_default c = feed_size _ _ _ (sym c.clock_of.ensures ∙ c.in_default.is)

pub returns : goal.returns
returns c =
    feed_on _ _ (whole _ _ (sym c.clock_of.ensures ∙ c.in-Ok.is)) c.take_blocks.ensures.0 c.take_blocks.ensures.1
