-- `form::words::words_fit` meets its contract: the words passed are of their sorts, so all are if the rest is.
use Prim.Native.Nat.{◌+◌, ◌-◌, ◌≤◌}
use mathlib.Core.Path.{◌≡◌}
use lib.ListN.{length}
use Rattle.form.specs.Form.{pieces, all_fit}
use Rattle.form.specs.Code.{sorts_of}
use Rattle.form.proofs.Fitting.{left}
use Rattle.form.proofs.words.words_fit.Given as goal

abbrev pub invariant-loop-i : goal.invariant-loop-i
invariant-loop-i l = (l.i ≤ length l.sorts) × (l.at ≤ length l.line + 1) × (all_fit (sorts_of l.sorts) (pieces 32 l.line) ≡ left l.line l.sorts l.i l.at)

abbrev pub decreases-loop-i : goal.decreases-loop-i
decreases-loop-i l = length l.sorts - l.i
