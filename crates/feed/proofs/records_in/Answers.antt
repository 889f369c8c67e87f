-- `feed::records_in` meets its contract: before each turn the records of the first k blocks have been counted.
use mathlib.Core.Path.{◌≡◌, refl, ap, ◌∙◌}
use native.Mathlib.Omega.{arith}
use Rattle.feed.specs.Feed.{blocks_in, records_in}
use Rattle.feed.proofs.Records.{records_on}
use borrow.Author.Rules.{rules}
use Rattle.feed.proofs.records_in.Goals as goal

pub loop-k-init : goal.loop-k-init
loop-k-init c = (search rules, refl)

pub overflow_add-records : goal.overflow_add-records
overflow_add-records c = omega (arith, c.block_records-records.ensures.1, c.loop-k.invariant.0)

pub loop-k-preserved : goal.loop-k-preserved
loop-k-preserved c =
    let a = c.args in
    let r = c.block_records-records.ensures in
    (omega (arith, r.1, c.loop-k.invariant.0), records_on a.capture.now c.loop-k.k c.block_at.ensures c.loop-k.invariant.1 r.0)

pub returns : goal.returns
returns c =
    let a = c.args in
    let e : c.loop-k.k ≡ blocks_in a.capture.now = omega (arith, c.blocks_in-n.ensures) in
    c.loop-k.invariant.1 ∙ ap (records_in a.capture.now) e
