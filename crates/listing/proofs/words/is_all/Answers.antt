-- `listing::words::is_all` meets its contract: by the length, and then letter by letter.
use borrow.Author.Tests.{eq-eqb, ne_eqb}
use Rattle.listing.specs.Words.{is_all}
use Rattle.listing.proofs.words.is_all.Goals as goal

pub returns-then-word-ne3 : goal.returns-then-word-ne3
unfolding is_all
returns-then-word-ne3 c = rw (ne_eqb _ _ c.if-word-ne3.true)

pub returns : goal.returns
unfolding is_all
returns c = rw (eq-eqb _ _ c.if-word-ne3.false)
