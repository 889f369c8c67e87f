-- `text::numbers::put_middle` meets its contract: at most four digits, or these and four more.
use mathlib.Core.Path.{sym}
use native.Mathlib.Omega.{arith}
use Rattle.text.proofs.Buffer.{wrote_then, wrote_as}
use Rattle.text.proofs.Digits.{decimal_four}
use Rattle.text.proofs.numbers.put_middle.Goals as goal

pub returns : goal.returns
returns c =
    let p = wrote_then c.put_small-a.ensures.wrote c.put_four.ensures in
    record { wrote = wrote_as p (sym (decimal_four c.args.n (omega arith) (omega arith))); upper_bound = omega (arith, p.next) }
