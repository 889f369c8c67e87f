-- `place::write::put_messages` meets its contract: four stores in a row, each but the last with a byte more, which the next one writes.
use native.Mathlib.Omega.{arith}
use Rattle.place.specs.Place.{message_bytes}
use Rattle.memory.specs.Bytes.{low_bytes}
use Rattle.memory.proofs.Put.{put_8_then, put_8_after}
use Rattle.place.proofs.write.put_messages.Goals as goal

pub returns : goal.returns
unfolding message_bytes low_bytes
returns c =
    put_8_then _ _ _ _ (omega arith) c.put8.ensures
    (put_8_after _ _ 7 _ _ (omega arith) c.put8-2.ensures
    (put_8_after _ _ 14 _ _ (omega arith) c.put8-3.ensures c.put7.ensures))
