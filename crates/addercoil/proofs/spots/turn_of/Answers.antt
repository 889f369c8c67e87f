-- `addercoil::spots::turn_of` meets its contract: its test is the definition's.
use borrow.Author.Tests.{eq-eqb, ne_eqb}
use Rattle.addercoil.proofs.spots.turn_of.Goals as goal

pub returns-then-surface-eq0 : goal.returns-then-surface-eq0
returns-then-surface-eq0 c = rw (eq-eqb _ _ c.if-surface-eq0.true)

pub returns-else-surface-eq0 : goal.returns-else-surface-eq0
returns-else-surface-eq0 c = rw (ne_eqb _ _ c.if-surface-eq0.false)
