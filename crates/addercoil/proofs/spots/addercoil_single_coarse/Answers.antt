-- `addercoil::spots::addercoil_single_coarse` meets its contract: an array of a wrong length, or what `give_single` gives of the counts.
use mir.Facts.{to_z-of_z}
use mathlib.Core.Path.{ap, ◌∙◌}
use Rattle.positions.specs.declared.Counts.{Counts}
use Rattle.positions.specs.declared.Size.TheVariants.{Coarse}
use Rattle.entries.specs.Sent.{given}
use Rattle.addercoil.specs.Spots.{single_said}
use Rattle.entries.proofs.Ways.{into_wrong, into_given}
use Rattle.addercoil.proofs.spots.addercoil_single_coarse.Goals as goal

pub returns-then-out-ne2 : goal.returns-then-out-ne2
returns-then-out-ne2 c = into_wrong 2 _ _ c.if-out-ne2.true

pub returns : goal.returns
returns c =
    let a = c.args in
    into_given 2 a.out.now _ c.if-out-ne2.false
    (rw (to_z-of_z c.ranges.latitude) at c.give_single.ensures ∙ ap (λ (x : Counts). given a.out.now (single_said Coarse a.latitude a.longitude x 0 a.odd)) c.counts_of-counts.ensures)
