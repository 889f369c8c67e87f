-- `text::numbers::put_decimal` meets its contract: at most eight digits, or at most twelve and eight more.
use mathlib.Core.Path.{sym}
use native.Mathlib.Omega.{arith}
use Rattle.text.proofs.Buffer.{wrote_then, wrote_as}
use Rattle.text.proofs.Digits.{decimal_eight}
use Rattle.text.proofs.numbers.put_decimal.Goals as goal

pub returns : goal.returns
returns c =
    let p = wrote_then c.put_large-a.ensures.wrote c.put_eight.ensures in
    record { wrote = wrote_as p (sym (decimal_eight c.args.n (omega arith) (omega arith))); upper_bound = omega (arith, p.next) }
