-- `addercoil::figures::addercoil_from_degrees` meets its contract: an array of a wrong length, or what the crate below answers.
use Rattle.addercoil.proofs.Figured.{back_said}
use Rattle.entries.proofs.Ways.{into_wrong, into_given}
use Rattle.addercoil.proofs.figures.addercoil_from_degrees.Goals as goal

pub returns-then-out-ne2 : goal.returns-then-out-ne2
returns-then-out-ne2 c = into_wrong 2 _ _ c.if-out-ne2.true

pub returns : goal.returns
returns c =
    into_given 2 _ _ c.if-out-ne2.false
    (back_said _ _ _ c.from_degrees.ensures c.give_spot.ensures)
