-- `addercoil::spots::give_encoded` meets its contract: a turn or format that is neither 0 nor 1, or what the encoder answers.
use mir.Facts.{to_z-of_z}
use Rattle.addercoil.specs.Spots.{encode_said}
use Rattle.addercoil.proofs.Placed.{encode_said_lem}
use Rattle.entries.proofs.Ways.{stopped}
use Rattle.addercoil.proofs.spots.give_encoded.Goals as goal

pub returns-then-surface-odd : goal.returns-then-surface-odd
unfolding encode_said
returns-then-surface-odd c = stopped _ _ 8 _ c.if-surface-odd.true

pub returns : goal.returns
returns c =
    encode_said_lem _ _ _ _ _ _ c.if-surface-odd.false c.turn_of.ensures c.format_of.ensures
    (rw (to_z-of_z c.ranges.latitude) at c.encode-answer.ensures) c.give_counts.ensures
