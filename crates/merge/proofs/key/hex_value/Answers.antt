-- `merge::key::hex_value` meets its contract: by the test of the byte.
use mathlib.Core.Path.{◌∙◌}
use borrow.Author.Tests.{le-leb, lt-leb}
use Rattle.merge.specs.Merged.{hex_value}
use Rattle.merge.proofs.key.hex_value.Goals as goal

pub returns-then-b-le57-clause-value : goal.returns-then-b-le57-clause-value
unfolding hex_value
returns-then-b-le57-clause-value c = simp (le-leb _ _ c.if-b-le57.true) (c.from.ensures ∙ c.saturating_sub.ensures)

pub returns-clause-value : goal.returns-clause-value
unfolding hex_value
returns-clause-value c = simp (lt-leb _ _ c.if-b-le57.false) (c.from-2.ensures ∙ c.saturating_sub-2.ensures)
