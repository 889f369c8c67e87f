-- `text::numbers::put_small` meets its contract: by how many digits there are.
use Prim.Native.Nat.{◌%◌}
use mathlib.Core.Path.{sym, ap, ◌∙◌}
use mathlib.Core.List.{List, ◌++◌}
use Prim.Native.Nat.{ℕ}
use native.Mathlib.Omega.{arith}
use Rattle.text.specs.Code.{two}
use Rattle.text.proofs.Buffer.{wrote_then, wrote_as}
use Rattle.text.proofs.Digits.{decimal_small, decimal_two, decimal_hundred}
use Rattle.text.proofs.numbers.put_small.Goals as goal

pub returns-then-n-lt10 : goal.returns-then-n-lt10
returns-then-n-lt10 c =
    let n = c.args.n in
    let p = c.put_byte.ensures in
    record { wrote = wrote_as p (sym (decimal_small n (omega arith))); upper_bound = omega (arith, p.next) }

pub returns-then-n-lt100 : goal.returns-then-n-lt100
returns-then-n-lt100 c =
    let n = c.args.n in
    let p = c.put_two.ensures in
    record { wrote = wrote_as p (sym (decimal_two n (omega arith) (omega arith))); upper_bound = omega (arith, p.next) }

pub returns-then-n-lt1000 : goal.returns-then-n-lt1000
returns-then-n-lt1000 c =
    let n = c.args.n in
    let p = wrote_then c.put_byte-a.ensures c.put_two-then-n-lt1000.ensures in
    record { wrote = wrote_as p (sym (decimal_hundred n (omega arith) (omega arith) ∙ ap (λ (x : List ℕ). x ++ two (n % 100)) (decimal_small _ (omega arith)))); upper_bound = omega (arith, p.next) }

pub returns : goal.returns
returns c =
    let n = c.args.n in
    let p = c.put_four.ensures in
    record { wrote = wrote_as p (sym (decimal_hundred n (omega arith) (omega arith) ∙ ap (λ (x : List ℕ). x ++ two (n % 100)) (decimal_two _ (omega arith) (omega arith)))); upper_bound = omega (arith, p.next) }
