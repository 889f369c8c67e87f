-- `place::write::saved_number` meets its contract: the sum is the definition's.
use Rattle.place.specs.Place.{saved_number}
use Rattle.place.proofs.Sizes.{bit_is}
use Rattle.place.proofs.write.saved_number.Goals as goal

pub returns : goal.returns
unfolding saved_number
returns c =
    let v = c.args.v in
    rw (c.from.ensures, c.from-2.ensures, c.from-3.ensures, c.from-4.ensures, bit_is v.coarse, bit_is v.known)
