-- `display::listing::addercoil_listing` meets its contract: an array of a wrong length, a choice that is neither 0 nor 1, or what the listing answers.
use mathlib.Core.Path.{refl}
use borrow.Author.Tests.{lt-ltb, le-ltb}
use Rattle.display.proofs.Handing.{not_one, not_chosen, text_handed, number_handed}
use Rattle.display.proofs.listing.addercoil_listing.Goals as goal

pub returns-then-written-ne1 : goal.returns-then-written-ne1
returns-then-written-ne1 c = not_one _ _ _ _ _ _ c.if-written-ne1.true

pub returns-then-all-gt1 : goal.returns-then-all-gt1
returns-then-all-gt1 c = not_chosen _ _ _ _ _ _ c.if-written-ne1.false (lt-ltb _ _ c.if-all-gt1.true) c.unlisted.ensures

pub returns-in-Ok : goal.returns-in-Ok
returns-in-Ok c =
    let a = c.args in
    text_handed a.all a.table.now a.bad a.order.now a.out.now a.written.now c.if-written-ne1.false (le-ltb _ _ c.if-all-gt1.false) c.listing-listed.ensures c.in-Ok.is refl

pub returns-in-Err : goal.returns-in-Err
returns-in-Err c =
    let a = c.args in
    number_handed a.all a.table.now a.bad a.order.now a.out.now a.written.now c.if-written-ne1.false (le-ltb _ _ c.if-all-gt1.false) c.listing-listed.ensures c.in-Err.is c.number.ensures
