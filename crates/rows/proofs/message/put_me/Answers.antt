-- `rows::message::put_me` meets its contract: an array of 28 entries holds the row, which is put there in three parts, and another what it held.
use mathlib.Core.Path.{sym}
use borrow.Author.Tests.{eq-eqb, ne_eqb}
use Rattle.rows.proofs.Laid.{row_kept, row_put}
use Rattle.rows.proofs.message.put_me.Goals as goal

pub returns-then-out-ne-ROW : goal.returns-then-out-ne-ROW
returns-then-out-ne-ROW c = (sym (ne_eqb _ _ c.if-out-ne-ROW.true), row_kept c.args.out.now _ c.if-out-ne-ROW.true)

pub returns : goal.returns
returns c =
    let a = c.args in (
      sym (eq-eqb _ _ c.if-out-ne-ROW.false),
      row_put a.out.now c.if-out-ne-ROW.false c.fill.new.out c.put_fields.new.out c.put_four.new.out
          a.layout a.me c.number_of.result a.traffic c.four_in-four.result
          c.number_of.ensures c.four_in-four.ensures c.fill.ensures c.put_fields.ensures c.put_four.ensures,
    )
