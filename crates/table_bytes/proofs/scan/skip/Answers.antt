-- `table_bytes::scan::skip` meets its contract: no key that the loop has passed is the key.
use mathlib.Core.Bool.{not}
use mathlib.Core.Path.{ap}
use Prim.Native.Nat.{◌-◌}
use native.Mathlib.Omega.{arith}
use Rattle.table_bytes.proofs.Scanned.{skip_more}
use borrow.Author.Rules.{rules}
use Rattle.table_bytes.proofs.scan.skip.Goals as goal

pub loop-i-init : goal.loop-i-init
loop-i-init c = (search rules, λ j h. absurd (omega arith))

pub past_8-requires : goal.past_8-requires
past_8-requires c = (search rules, search rules, c.loop-i.invariant.1)

pub past_4-requires : goal.past_4-requires
past_4-requires c = (search rules, search rules, c.past_8.ensures.1)

pub returns-then-not-none_of_8 : goal.returns-then-not-none_of_8
returns-then-not-none_of_8 c = (search rules, c.past_4.ensures.1)

pub loop-i-preserved : goal.loop-i-preserved
loop-i-preserved c =
    let a = c.args in
    (search rules, skip_more a.s.now a.key c.loop-i.i c.loop-i.invariant.1 c.none_of_8.ensures c.none_of_8-in-loop-i.ensures (ap not c.if-not-none_of_8.false))

pub returns : goal.returns
returns c = (search rules, c.loop-i.invariant.1)
