-- `readings::amounts::with_sign` meets its contract: by the test of the sign bit.
use mathlib.Core.Path.{◌∙◌}
use native.Mathlib.Omega.{arith}
use borrow.Author.Tests.{eq-eqb, ne_eqb}
use Rattle.readings.specs.Amounts.{signed}
use Rattle.readings.proofs.BelowZero.{kept, below, above, below_fits, above_fits}
use Rattle.readings.proofs.amounts.with_sign.Goals as goal

pub returns-then-sign-eq1 : goal.returns-then-sign-eq1
unfolding signed
returns-then-sign-eq1 c = rw (eq-eqb _ _ c.if-sign-eq1.true) (kept (below_fits c.args.n (omega arith)) (c.less.ensures ∙ below c.args.n))

pub returns-else-sign-eq1 : goal.returns-else-sign-eq1
unfolding signed
returns-else-sign-eq1 c = rw (ne_eqb _ _ c.if-sign-eq1.false) (kept (above_fits c.args.n (omega arith)) (c.less-else-sign-eq1.ensures ∙ above c.args.n))
