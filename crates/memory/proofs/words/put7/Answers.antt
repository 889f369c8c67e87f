-- `memory::words::put7` meets its contract: four bytes, and four from the last of them on.
use Rattle.memory.proofs.Put.{put_7}
use Rattle.memory.proofs.words.put7.Goals as goal

pub returns : goal.returns
returns c = let a = c.args in put_7 a.s.now a.at a.x c.put4.ensures c.put4-2.ensures
