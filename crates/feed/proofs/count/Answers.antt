-- `feed::count` meets its contract: its three ways out are the definition's.
use native.Mathlib.Omega.{arith}
use Rattle.feed.proofs.Ways.{count_good, count_bad, count_most}
use Rattle.feed.proofs.count.Goals as goal

pub returns-then-good : goal.returns-then-good
returns-then-good c = count_good _ c.if-good.true

pub returns-then-bad-lt18446744073709551615 : goal.returns-then-bad-lt18446744073709551615
returns-then-bad-lt18446744073709551615 c = count_bad _ c.if-good.false (omega arith)

pub returns-else-bad-lt18446744073709551615 : goal.returns-else-bad-lt18446744073709551615
returns-else-bad-lt18446744073709551615 c = count_most _ c.if-good.false (omega arith) (omega arith)
