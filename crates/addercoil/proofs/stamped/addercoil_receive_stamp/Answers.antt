-- `addercoil::stamped::addercoil_receive_stamp` meets its contract: lengths, the places, entries that are no state, or what `stamps` hears.
use mathlib.Core.Bool.{not}
use mathlib.Core.Path.{ap}
use native.Mathlib.Omega.{arith}
use Rattle.addercoil.proofs.Stamping.{two_entries, last_fits, stamp_length, stamp_places, stamp_state, stamp_on}
use Rattle.addercoil.proofs.stamped.addercoil_receive_stamp.Goals as goal

pub returns-then-message-state : goal.returns-then-message-state
returns-then-message-state c = stamp_length _ _ _ _ c.if-message-state.true

pub returns-then-not-whole_places : goal.returns-then-not-whole_places
returns-then-not-whole_places c = stamp_places _ _ _ _ c.if-message-state.false c.whole_places.ensures (ap not c.if-not-whole_places.true)

pub bounds-state-0 : goal.bounds-state-0
bounds-state-0 c = let a = c.args in omega (arith, two_entries a.message.now a.state.now c.if-message-state.false)

pub bounds-state-1 : goal.bounds-state-1
bounds-state-1 c = let a = c.args in omega (arith, two_entries a.message.now a.state.now c.if-message-state.false)

pub returns-then-started-last : goal.returns-then-started-last
returns-then-started-last c = stamp_state _ _ _ _ c.if-message-state.false c.whole_places.ensures (ap not c.if-not-whole_places.false) c.if-started-last.true

pub overflow_cast-from : goal.overflow_cast-from
overflow_cast-from c = let a = c.args in omega (arith, last_fits a.state.now c.if-started-last.false)

pub give_noted-requires : goal.give_noted-requires
give_noted-requires c = let a = c.args in two_entries a.message.now a.state.now c.if-message-state.false

pub returns : goal.returns
returns c = stamp_on _ _ _ _ c.if-message-state.false c.whole_places.ensures (ap not c.if-not-whole_places.false) c.if-started-last.false c.hear.ensures c.give_noted.ensures
