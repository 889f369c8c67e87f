-- `whole::lines::put_lines` meets its contract: the lines of the entries that the loop has passed stand behind the text.
use Prim.Native.Nat.{ℕ, ◌<◌}
use native.Mathlib.Omega.{arith}
use mathlib.Core.Path.{◌≡◌, refl, ap}
use lib.ListN.{length, take}
use borrow.Author.Rules.{rules}
use Rattle.report.specs.Listing.{texts}
use Rattle.whole.specs.Code.{rows_at}
use Rattle.whole.proofs.Buffer.{added_none, added_as, added_then}
use Rattle.whole.proofs.Steps.{texts_start, texts_step}
use Rattle.whole.proofs.lines.put_lines.Goals as goal

pub loop-j-init : goal.loop-j-init
loop-j-init c =
    let a = c.args in
    (search rules, omega (arith, c.requires.2), refl, added_as (texts_start a.all a.table.now a.n a.order.now) (added_none a.from a.out.now))

pub put_entry-at-requires : goal.put_entry-at-requires
put_entry-at-requires c =
    let p = c.requires in
    (p.1.each c.loop-j.j (omega arith), p.0, omega arith)

pub loop-j-preserved : goal.loop-j-preserved
loop-j-preserved c =
    let a = c.args in
    let e = c.put_entry-at.ensures in
    let in_range_lem : c.loop-j.j < length a.order.now = omega (arith, c.requires.1.many) in (
      search rules,
      omega (arith, e.0),
      search rules,
      added_as (texts_step a.all a.table.now a.n a.order.now c.loop-j.j in_range_lem) (added_then c.loop-j.invariant.3 e.1),
    )

pub returns : goal.returns
returns c =
    let a = c.args in
    let e : c.loop-j.j ≡ a.k = omega arith in
    added_as (ap (λ (i : ℕ). texts (rows_at a.all a.table.now a.n (take i a.order.now))) e) c.loop-j.invariant.3
