-- `addercoil::spots::give_pair` meets its contract: a format that is neither 0 nor 1, or what the decoder answers.
use borrow.Author.Tests.{lt-ltb, le-ltb}
use Rattle.addercoil.specs.Spots.{pair_said}
use Rattle.addercoil.proofs.Placed.{pair_said_lem}
use Rattle.entries.proofs.Ways.{stopped}
use Rattle.addercoil.proofs.spots.give_pair.Goals as goal

pub returns-then-later_odd-gt1 : goal.returns-then-later_odd-gt1
unfolding pair_said
returns-then-later_odd-gt1 c = stopped _ _ 8 _ (lt-ltb _ _ c.if-later_odd-gt1.true)

pub returns : goal.returns
returns c =
    pair_said_lem _ _ _ _ _ (le-ltb _ _ c.if-later_odd-gt1.false) c.format_of.ensures c.pair.ensures c.give_spot.ensures
