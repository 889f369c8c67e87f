-- `place::write::put_saved` meets its contract: two stores in a row.
use mathlib.Core.Path.{ap}
use Rattle.memory.specs.Bytes.{low_bytes}
use Rattle.place.specs.Place.{saved_bytes}
use Rattle.memory.proofs.Numbers.{low_length}
use Rattle.memory.proofs.Put.{put_then, put_same}
use Rattle.place.proofs.write.put_saved.Goals as goal

pub returns : goal.returns
unfolding saved_bytes
returns c = put_then _ _ 5 _ _ (low_length 5 _) (put_same _ _ (ap (low_bytes 5) c.saved_number.ensures) c.put5.ensures) c.put8.ensures
