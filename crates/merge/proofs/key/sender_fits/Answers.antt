-- `merge::key::sender_fits` meets its contract: by the bytes that it reads.
use Rattle.merge.specs.Merged.{sender_fits}
use Rattle.merge.proofs.key.sender_fits.Goals as goal

pub returns : goal.returns
unfolding sender_fits
returns c = cc
