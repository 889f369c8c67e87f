-- `table_bytes::scan::skip_held` meets its contract: each place that the loop has passed is held, and it ends at its own two tests.
use Prim.Native.Nat.{◌-◌}
use native.Mathlib.Omega.{arith}
use mathlib.Core.Bool.{Bool, false, not, ◌&&◌}
use mathlib.Core.Path.{◌≡◌, sym, ap₂, ◌∙◌, ap}
use Rattle.table_bytes.specs.Layout.{place_at}
use Rattle.table_bytes.proofs.Scanned.{held_more}
use borrow.Author.Rules.{rules}
use Rattle.table_bytes.proofs.scan.skip_held.Goals as goal

-- a test by two calls is the test of what they say
both : {a b x y : Bool} → a ≡ x → b ≡ y → a && b ≡ false → x && y ≡ false
both p q e = ap₂ ◌&&◌ (sym p) (sym q) ∙ e

pub loop-i-init : goal.loop-i-init
loop-i-init c = (search rules, λ j h. absurd (omega arith))

pub returns-then-not-held_4 : goal.returns-then-not-held_4
returns-then-not-held_4 c = (search rules, (c.loop-i.invariant.1, λ g. both c.held_4.ensures c.held_4-in-loop-i.ensures c.if-not-held_4.true))

pub loop-i-preserved : goal.loop-i-preserved
loop-i-preserved c =
    let a = c.args in
    (search rules, held_more (place_at a.s.now a.n) a.clock c.loop-i.i c.loop-i.invariant.1 c.held_4.ensures c.held_4-in-loop-i.ensures (ap not c.if-not-held_4.false))

pub returns : goal.returns
returns c = (search rules, (c.loop-i.invariant.1, λ g. absurd (omega arith)))
