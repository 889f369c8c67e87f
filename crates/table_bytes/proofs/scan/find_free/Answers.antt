-- `table_bytes::scan::find_free` meets its contract: each place that was skipped or that the loop has passed is held.
use native.Mathlib.Omega.{arith}
use mathlib.Core.Bool.{not}
use mathlib.Core.Path.{◌≡◌, ap, sym}
use Rattle.table_bytes.specs.Layout.{place_at, is_held}
use Rattle.table_bytes.proofs.Scanned.{lowest_none, lowest_found, none_free}
use Rattle.table_bytes.proofs.scan.find_free.Goals as goal

pub loop-i-init : goal.loop-i-init
loop-i-init c =
    let a = c.args in
    none_free (place_at a.s.now a.n) a.clock _ c.skip_held-i.ensures.1.0

pub returns-then-not-is_held : goal.returns-then-not-is_held
returns-then-not-is_held c =
    let a = c.args in
    sym (lowest_found (λ j. not (is_held a.clock (place_at a.s.now a.n j))) c.loop-i.i c.loop-i.invariant (ap not c.is_held.ensures) (ap not c.if-not-is_held.true) a.n c.loop-i-test.true)

pub loop-i-preserved : goal.loop-i-preserved
loop-i-preserved c =
    let a = c.args in
    lowest_none (λ j. not (is_held a.clock (place_at a.s.now a.n j))) c.loop-i.i c.loop-i.invariant (ap not c.is_held.ensures) (ap not c.if-not-is_held.false)

pub returns : goal.returns
returns c =
    let e : c.loop-i.i ≡ c.args.n = omega arith in
    rw e at (sym c.loop-i.invariant)
