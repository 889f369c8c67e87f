-- `merge::head::further` meets its contract: 10 n + d has 64 bits as long as n is below a tenth of 2^64, and a little above it for a small d.
use Prim.Native.Nat.{◌+◌, ◌*◌, ◌-◌}
use native.Mathlib.Omega.{arith}
use borrow.Author.Tests.{le-leb, lt-leb}
use Rattle.merge.specs.Merged.{most, further}
use Rattle.merge.proofs.head.further.Goals as goal

pub returns-then-n-lt1844674407370955161 : goal.returns-then-n-lt1844674407370955161
unfolding further
returns-then-n-lt1844674407370955161 c =
    let a = c.args in
    simp (le-leb (10 * a.n + (a.b - 48)) most (omega arith))

pub returns-then-n-gt1844674407370955161 : goal.returns-then-n-gt1844674407370955161
unfolding further
returns-then-n-gt1844674407370955161 c =
    let a = c.args in
    simp (lt-leb (10 * a.n + (a.b - 48)) most (omega arith))

pub returns-then-d-lt6 : goal.returns-then-d-lt6
unfolding further
returns-then-d-lt6 c =
    let a = c.args in
    simp (le-leb (10 * a.n + (a.b - 48)) most (omega arith))

pub returns : goal.returns
unfolding further
returns c =
    let a = c.args in
    simp (lt-leb (10 * a.n + (a.b - 48)) most (omega arith))
