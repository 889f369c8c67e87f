-- `whole::listing` meets its contract: arrays of a wrong length, a table that is not of whole places, or the text.
use native.Mathlib.Omega.{arith}
use mathlib.Core.Path.{sym, ap, ◌∙◌}
use mathlib.Core.Bool.{not}
use Rattle.whole.proofs.Ways.{blank, order_room, out_room, no_room, no_table, told, inside_all}
use borrow.Author.Rules.{rules}
use Rattle.whole.proofs.listing.Goals as goal

pub returns-then-not-has_room : goal.returns-then-not-has_room
returns-then-not-has_room c = no_room _ _ _ c.has_room.ensures _ _ (ap not c.if-not-has_room.true)

pub returns-then-not-whole_places : goal.returns-then-not-whole_places
returns-then-not-whole_places c = no_table _ _ _ c.has_room.ensures _ _ (ap not c.if-not-has_room.false) c.whole_places.ensures (ap not c.if-not-whole_places.true)

pub places_in-n-requires : goal.places_in-n-requires
places_in-n-requires c = sym c.whole_places.ensures ∙ c.if-not-whole_places.false

pub in_order-k-requires : goal.in_order-k-requires
in_order-k-requires c =
    let p = c.places_in-n.ensures in
    let a = c.args in
    let room = order_room a.table.now a.order.now a.out.now c.has_room.ensures (ap not c.if-not-has_room.false) in
    (p.0, p.1, omega (arith, room, p.0))

pub put_listing-requires : goal.put_listing-requires
put_listing-requires c =
    let p = c.places_in-n.ensures in
    let a = c.args in
    let test = c.has_room.ensures in
    let left = (ap not c.if-not-has_room.false) in
    let i = inside_all a.table.now a.order.now p.0 p.1.0 c.in_order-k.ensures.1 c.in_order-k.ensures.0 in
    (p.1, i, omega (arith, i.many, out_room a.table.now a.order.now a.out.now test left, order_room a.table.now a.order.now a.out.now test left), blank a.out.now c.clear.ensures)

pub returns : goal.returns
returns c =
    let p = c.places_in-n.ensures in
    let a = c.args in
    told a.table.now a.order.now a.out.now c.has_room.ensures a.all a.bad (ap not c.if-not-has_room.false) c.whole_places.ensures
    p.0 p.1.0 c.in_order-k.ensures.1 c.in_order-k.ensures.0 (ap not c.if-not-whole_places.false) (search rules) c.put_listing.ensures
