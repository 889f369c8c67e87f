-- `memory::words::put8` meets its contract: four bytes and four more.
use Rattle.memory.proofs.Put.{put_more}
use Rattle.memory.proofs.words.put8.Goals as goal

pub returns : goal.returns
returns c = let a = c.args in put_more a.s.now a.at 4 a.x c.put4.ensures c.put4-2.ensures
