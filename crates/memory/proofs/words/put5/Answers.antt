-- `memory::words::put5` meets its contract: four bytes and one more.
use Rattle.memory.proofs.Put.{put_1, put_more}
use Prim.Native.Nat.{◌+◌, ◌/◌}
use Rattle.memory.proofs.words.put5.Goals as goal

pub returns : goal.returns
returns c = let a = c.args in put_more a.s.now a.at 1 a.x c.put4.ensures (put_1 _ (a.at + 4) (a.x / 4294967296))
