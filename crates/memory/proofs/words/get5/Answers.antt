-- `memory::words::get5` meets its contract: four bytes and one more.
use native.Mathlib.Omega.{arith}
use Prim.Native.Nat.{◌+◌}
use Rattle.memory.proofs.Numbers.{number_1, number_more}
use Rattle.memory.proofs.words.get5.Goals as goal

pub returns : goal.returns
returns c = let a = c.args in omega (arith, number_more a.s.now a.at 1, number_1 a.s.now (a.at + 4))
