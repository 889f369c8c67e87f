-- `feed::take_block` meets its contract: a block that is refused is bad and skipped, and of a good one all records are received.
use mathlib.Core.Path.{sym, ◌∙◌}
use Rattle.feed.proofs.Ways.{block_skipped, block_taken}
use Rattle.feed.proofs.take_block.Goals as goal

pub returns-in_default : goal.returns-in_default
returns-in_default c = block_skipped _ _ _ (sym c.block_of.ensures ∙ c.in_default.is)

pub returns : goal.returns
returns c =
    block_taken _ _ _ (sym c.block_of.ensures ∙ c.in-Ok.is) c.take_records.ensures
