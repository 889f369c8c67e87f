-- `table_bytes::scan::find_key` meets its contract: no place that was skipped or that the loop has passed holds the key.
use native.Mathlib.Omega.{arith}
use mathlib.Core.Path.{◌≡◌, sym}
use Rattle.table_bytes.specs.Layout.{place_at, holds}
use Rattle.table_bytes.proofs.Scanned.{lowest_none, lowest_found, skipped}
use Rattle.table_bytes.proofs.scan.find_key.Goals as goal

pub loop-i-init : goal.loop-i-init
loop-i-init c = skipped _ _ _ _ _ c.skip-i.ensures.1

pub returns-then-has_key : goal.returns-then-has_key
returns-then-has_key c =
    let a = c.args in
    sym (lowest_found (λ j. holds a.clock a.key (place_at a.s.now a.n j)) c.loop-i.i c.loop-i.invariant c.has_key.ensures c.if-has_key.true a.n c.loop-i-test.true)

pub loop-i-preserved : goal.loop-i-preserved
loop-i-preserved c =
    let a = c.args in
    lowest_none (λ j. holds a.clock a.key (place_at a.s.now a.n j)) c.loop-i.i c.loop-i.invariant c.has_key.ensures c.if-has_key.false

pub returns : goal.returns
returns c =
    let e : c.loop-i.i ≡ c.args.n = omega arith in
    rw e at (sym c.loop-i.invariant)
