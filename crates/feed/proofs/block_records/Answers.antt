-- `feed::block_records` meets its contract: by what the block is called.
use mathlib.Core.Path.{sym, ◌∙◌}
use Rattle.feed.proofs.Records.{records_good, records_bad}
use Rattle.feed.proofs.block_records.Goals as goal

pub returns-in-Ok : goal.returns-in-Ok
returns-in-Ok c = records_good _ _ (sym c.block_of.ensures ∙ c.in-Ok.is)

pub returns-in-Err : goal.returns-in-Err
returns-in-Err c = records_bad _ _ (sym c.block_of.ensures ∙ c.in-Err.is)
