-- `addercoil::spots::give_single` meets its contract: a turn or format that is neither 0 nor 1, or what the decoder answers.
use mir.Facts.{to_z-of_z}
use Rattle.addercoil.specs.Spots.{single_said}
use Rattle.addercoil.proofs.Placed.{single_said_lem}
use Rattle.entries.proofs.Ways.{stopped}
use Rattle.addercoil.proofs.spots.give_single.Goals as goal

pub returns-then-surface-odd : goal.returns-then-surface-odd
unfolding single_said
returns-then-surface-odd c = stopped _ _ 8 _ c.if-surface-odd.true

pub returns : goal.returns
returns c =
    single_said_lem _ _ _ _ _ _ c.if-surface-odd.false c.turn_of.ensures c.format_of.ensures _
    (rw (to_z-of_z c.ranges.latitude) at c.single-answer.ensures) c.give_spot.ensures
