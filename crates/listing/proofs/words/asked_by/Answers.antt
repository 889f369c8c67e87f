-- `listing::words::asked_by` meets its contract: by the number of words, then by the one.
use mathlib.Core.Bool.{Bool, ◌&&◌}
use mathlib.Core.Path.{sym, ap, ◌∙◌}
use borrow.Author.Tests.{lt-ltb, le-ltb}
use lib.Dec.{eqb}
use Rattle.listing.specs.Words.{asked_by}
use Rattle.listing.proofs.words.asked_by.Goals as goal

pub returns-then-count-lt2 : goal.returns-then-count-lt2
unfolding asked_by
returns-then-count-lt2 c = rw (lt-ltb _ _ c.if-count-lt2.true)

pub returns-then-count-is_all : goal.returns-then-count-is_all
unfolding asked_by
returns-then-count-is_all c = rw (le-ltb _ _ c.if-count-lt2.false, ap (λ (b : Bool). eqb c.args.count 2 && b) (sym c.is_all.ensures) ∙ c.if-count-is_all.true)

pub returns-else-count-is_all : goal.returns-else-count-is_all
unfolding asked_by
returns-else-count-is_all c = rw (le-ltb _ _ c.if-count-lt2.false, ap (λ (b : Bool). eqb c.args.count 2 && b) (sym c.is_all.ensures) ∙ c.if-count-is_all.false)
