-- `text::numbers::hex_digit` meets its contract: by the test of the digit.
use borrow.Author.Tests.{lt-ltb, le-ltb}
use Rattle.text.proofs.numbers.hex_digit.Goals as goal

pub returns-then-d-lt10 : goal.returns-then-d-lt10
returns-then-d-lt10 c = simp (lt-ltb _ _ c.if-d-lt10.true)

pub returns : goal.returns
returns c = simp (le-ltb _ _ c.if-d-lt10.false)
