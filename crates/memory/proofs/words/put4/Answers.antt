-- `memory::words::put4` meets its contract: single stores in a row.
use mathlib.Core.Path.{sym}
use Rattle.memory.proofs.Numbers.{low_4}
use Rattle.memory.proofs.Put.{put_same, put_4}
use Rattle.memory.proofs.words.put4.Goals as goal

pub returns : goal.returns
returns c = put_same _ _ (sym (low_4 c.args.x)) (put_4 _ _ _ _ _ _)
