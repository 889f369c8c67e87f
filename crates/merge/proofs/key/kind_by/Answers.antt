-- `merge::key::kind_by` meets its contract: by the letter.
use borrow.Author.Tests.{eq-eqb, ne_eqb}
use Rattle.merge.specs.Merged.{kind_by}
use Rattle.merge.proofs.key.kind_by.Goals as goal

pub returns-then-b-eq73 : goal.returns-then-b-eq73
unfolding kind_by
returns-then-b-eq73 c = simp (eq-eqb _ _ c.if-b-eq73.true)

pub returns-then-b-eq79 : goal.returns-then-b-eq79
unfolding kind_by
returns-then-b-eq79 c = simp (ne_eqb _ _ c.if-b-eq73.false, eq-eqb _ _ c.if-b-eq79.true)

pub returns-then-b-eq84 : goal.returns-then-b-eq84
unfolding kind_by
returns-then-b-eq84 c =
    simp (ne_eqb _ _ c.if-b-eq73.false, ne_eqb _ _ c.if-b-eq79.false, eq-eqb _ _ c.if-b-eq84.true)

pub returns-then-b-eq77 : goal.returns-then-b-eq77
unfolding kind_by
returns-then-b-eq77 c =
    simp (ne_eqb _ _ c.if-b-eq73.false, ne_eqb _ _ c.if-b-eq79.false, ne_eqb _ _ c.if-b-eq84.false, eq-eqb _ _ c.if-b-eq77.true)

pub returns : goal.returns
unfolding kind_by
returns c =
    simp (ne_eqb _ _ c.if-b-eq73.false, ne_eqb _ _ c.if-b-eq79.false, ne_eqb _ _ c.if-b-eq84.false, ne_eqb _ _ c.if-b-eq77.false)
