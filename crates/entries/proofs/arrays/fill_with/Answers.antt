-- `entries::arrays::fill_with` meets its contract: what the loop has passed is filled.
use native.Mathlib.Omega.{arith}
use mathlib.Core.Path.{refl}
use lib.ListN.{length, length-set}
use Rattle.entries.proofs.Filling.{fill_more, fill_whole}
use borrow.Author.Rules.{rules}
use Rattle.entries.proofs.arrays.fill_with.Goals as goal

pub loop-i-init : goal.loop-i-init
loop-i-init g c = (search rules, refl, refl)

pub loop-i-smaller : goal.loop-i-smaller
loop-i-smaller g c = simp length-set (omega arith)

pub loop-i-preserved : goal.loop-i-preserved
loop-i-preserved g c = (simp length-set (omega arith), simp length-set (search rules), fill_more _ _ _ _ _ c.loop-i-test.true c.entry_or.ensures c.loop-i.invariant.2)

pub returns : goal.returns
returns g c = fill_whole _ c.loop-i.out _ c.loop-i.i (length c.args.out.now) (omega arith) (omega arith) c.loop-i.invariant.2
