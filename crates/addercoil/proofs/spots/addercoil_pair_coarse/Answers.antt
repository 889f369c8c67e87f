-- `addercoil::spots::addercoil_pair_coarse` meets its contract: an array of a wrong length, or what `give_pair` gives of the counts.
use mathlib.Core.Path.{ap₂, ◌∙◌}
use Rattle.positions.specs.declared.Counts.{Counts}
use Rattle.positions.specs.declared.Size.TheVariants.{Coarse}
use Rattle.entries.specs.Sent.{given}
use Rattle.addercoil.specs.Spots.{pair_said}
use Rattle.entries.proofs.Ways.{into_wrong, into_given}
use Rattle.addercoil.proofs.spots.addercoil_pair_coarse.Goals as goal

pub returns-then-out-ne2 : goal.returns-then-out-ne2
returns-then-out-ne2 c = into_wrong 2 _ _ c.if-out-ne2.true

pub returns : goal.returns
returns c =
    let a = c.args in
    into_given 2 a.out.now _ c.if-out-ne2.false
    (c.give_pair.ensures
    ∙ ap₂ (λ (x y : Counts). given a.out.now (pair_said Coarse x y a.later_odd)) c.counts_of-even.ensures c.counts_of-odd.ensures)
