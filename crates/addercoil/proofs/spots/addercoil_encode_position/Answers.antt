-- `addercoil::spots::addercoil_encode_position` meets its contract: an array of a wrong length, or what `give_encoded` gives.
use mir.Facts.{to_z-of_z}
use Rattle.entries.proofs.Ways.{into_wrong, into_given}
use Rattle.addercoil.proofs.spots.addercoil_encode_position.Goals as goal

pub returns-then-out-ne2 : goal.returns-then-out-ne2
returns-then-out-ne2 c = into_wrong 2 _ _ c.if-out-ne2.true

pub returns : goal.returns
returns c = into_given 2 _ _ c.if-out-ne2.false (rw (to_z-of_z c.ranges.latitude) at c.give_encoded.ensures)
