-- `stamps::extend` meets its contract: its ways out are the definition's.
use Rattle.std.proofs.Common.{arith, ◌∙◌}
use Rattle.stamps.proofs.Ways.{first_late, first_taken, too_far, overrun, on_time}
use Rattle.stamps.proofs.extend.Goals as goal

pub returns-then-time-clock : goal.returns-then-time-clock
returns-then-time-clock c = first_late _ _ _ c.if-not-state.true (omega (arith, c.from-time.ensures, c.if-time-clock.true))

pub returns-then-not-state : goal.returns-then-not-state
returns-then-not-state c = rw c.from-time.ensures (first_taken _ _ _ c.if-not-state.true (omega (arith, c.from-time.ensures, c.if-time-clock.false)))

pub returns-then-d-ge2147483648 : goal.returns-then-d-ge2147483648
returns-then-d-ge2147483648 c = too_far _ _ _ c.if-not-state.false (c.from-d.ensures ∙ c.distance_to.ensures) (omega (arith, c.if-d-ge2147483648.true))

pub returns-then-clock-d : goal.returns-then-clock-d
returns-then-clock-d c = overrun _ _ _ c.if-not-state.false (c.from-d.ensures ∙ c.distance_to.ensures) c.if-d-ge2147483648.false c.if-clock-d.true

pub returns : goal.returns
returns c = on_time _ _ _ c.if-not-state.false (c.from-d.ensures ∙ c.distance_to.ensures) c.if-d-ge2147483648.false c.if-clock-d.false (omega (arith, c.ranges.clock))
