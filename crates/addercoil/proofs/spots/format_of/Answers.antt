-- `addercoil::spots::format_of` meets its contract: its test is the definition's.
use borrow.Author.Tests.{eq-eqb, ne_eqb}
use Rattle.addercoil.proofs.spots.format_of.Goals as goal

pub returns-then-odd-eq0 : goal.returns-then-odd-eq0
returns-then-odd-eq0 c = rw (eq-eqb _ _ c.if-odd-eq0.true)

pub returns-else-odd-eq0 : goal.returns-else-odd-eq0
returns-else-odd-eq0 c = rw (ne_eqb _ _ c.if-odd-eq0.false)
