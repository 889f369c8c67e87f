-- `form::words::is_positive` meets its contract: by the test of the length.
use mathlib.Core.Path.{sym, ap, ap₂}
use mathlib.Core.Bool.{Bool, not, ◌&&◌}
use native.Mathlib.Omega.{arith}
use borrow.Author.Tests.{lt-leb, le-leb}
use lib.Dec.{eqb, leb}
use lib.ListN.{length, get_or}
use Rattle.form.specs.Form.{all, is_digit, is_positive}
use Rattle.form.proofs.words.is_positive.Goals as goal

pub returns-then-n-lt1 : goal.returns-then-n-lt1
unfolding is_positive all
returns-then-n-lt1 c =
    let w = c.args.w.now in
    sym (ap (λ (t : Bool). t && leb (length w) 20 && all is_digit w && not (eqb (get_or w 0 0) 48)) (lt-leb 1 (length w) (omega arith)))

pub returns : goal.returns
unfolding is_positive all
returns c =
    let w = c.args.w.now in
    ap₂ (λ (t u : Bool). t && leb (length w) 20 && u && not (eqb (get_or w 0 0) 48)) (sym (le-leb 1 (length w) (omega arith))) c.all_digits.ensures
