-- `memory::words::get8` meets its contract: four bytes and four more.
use native.Mathlib.Omega.{arith}
use Rattle.memory.proofs.Numbers.{number_more}
use Rattle.memory.proofs.words.get8.Goals as goal

pub returns : goal.returns
returns c = let a = c.args in omega (arith, number_more a.s.now a.at 4)
