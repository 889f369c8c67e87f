-- `feed::take_records` meets its contract: before each turn the first i records have been received.
use mathlib.Core.Path.{◌≡◌, refl, ap, ◌∙◌}
use native.Mathlib.Omega.{arith}
use Rattle.feed.specs.Feed.{records_into}
use Rattle.feed.proofs.Ways.{records_on}
use borrow.Author.Rules.{rules}
use Rattle.feed.proofs.take_records.Goals as goal

pub loop-i-init : goal.loop-i-init
loop-i-init c = (refl, refl)

pub loop-i-preserved : goal.loop-i-preserved
loop-i-preserved c =
    let a = c.args in
    (search rules, records_on a.table.now a.block.now _ c.loop-i.invariant.1 c.take_record.ensures)

pub returns : goal.returns
returns c =
    let a = c.args in
    let e : c.loop-i.i ≡ a.n = omega arith in
    c.loop-i.invariant.1 ∙ ap (records_into a.table.now a.block.now) e
