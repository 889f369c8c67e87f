-- `addercoil::figures::addercoil_degrees` meets its contract: an array of a wrong length, or what the crate below answers.
use mir.Facts.{to_z-of_z}
use Rattle.addercoil.proofs.Figured.{degrees_wrong, degrees_right}
use Rattle.addercoil.proofs.figures.addercoil_degrees.Goals as goal

pub returns-then-out-ne2 : goal.returns-then-out-ne2
returns-then-out-ne2 c = degrees_wrong _ _ _ c.if-out-ne2.true

pub give_figures-requires : goal.give_figures-requires
give_figures-requires c = c.if-out-ne2.false

pub returns : goal.returns
returns c =
    degrees_right _ _ _ c.if-out-ne2.false
    (rw (to_z-of_z c.ranges.latitude) at c.to_degrees.ensures)
    c.give_figures.ensures
