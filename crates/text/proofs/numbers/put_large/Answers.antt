-- `text::numbers::put_large` meets its contract: at most eight digits, or at most four and eight more.
use mathlib.Core.Path.{sym}
use native.Mathlib.Omega.{arith}
use Rattle.text.proofs.Buffer.{wrote_then, wrote_as}
use Rattle.text.proofs.Digits.{decimal_eight}
use Rattle.text.proofs.numbers.put_large.Goals as goal

pub returns : goal.returns
returns c =
    let p = wrote_then c.put_small-a.ensures.wrote c.put_eight.ensures in
    record { wrote = wrote_as p (sym (decimal_eight c.args.n (omega arith) (omega arith))); upper_bound = omega (arith, p.next) }
