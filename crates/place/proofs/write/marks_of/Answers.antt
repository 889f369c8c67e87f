-- `place::write::marks_of` meets its contract: the sum is the definition's.
use Rattle.place.specs.Place.{marks_of}
use Rattle.place.proofs.Sizes.{bit_is}
use Rattle.place.proofs.write.marks_of.Goals as goal

pub returns : goal.returns
unfolding marks_of
returns c =
    let g = c.args.g in
    rw (c.from.ensures, c.from-2.ensures, c.from-3.ensures, c.from-4.ensures, c.from-5.ensures, c.from-6.ensures, bit_is g.coarse, bit_is g.bit8, bit_is c.args.known)
