-- `capture::nth` meets its contract: a turn of a reader that stands at i gives what one that was moved there i times gives.
use mathlib.Core.Path.{sym, ◌∙◌}
use Rattle.capture.proofs.Turns.{after_turns}
use Rattle.capture.proofs.nth.Goals as goal

pub returns : goal.returns
returns c = c.advance.ensures.0 ∙ sym (after_turns c.args.block c.args.i)
