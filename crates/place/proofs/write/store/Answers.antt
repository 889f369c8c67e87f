-- `place::write::store` meets its contract: six stores in a row.
use mathlib.Core.Path.{ap}
use Rattle.memory.specs.Offsets.{identification_at, marks_at, latitude_at, even_at, saved_size}
use Rattle.memory.specs.Code.{messages_size, spot_size}
use Rattle.memory.specs.Bytes.{low_bytes}
use Rattle.place.specs.Place.{body_of}
use Rattle.memory.proofs.Numbers.{low_length}
use Rattle.memory.proofs.Put.{put_then, put_after, put_same}
use Rattle.place.proofs.Sizes.{saved_length, message_length, spot_length}
use Rattle.place.proofs.write.store.Goals as goal

pub returns : goal.returns
unfolding body_of
returns c = put_then _ _ 8 _ _ (low_length 8 _) c.put8.ensures
    (put_after _ _ identification_at messages_size _ _ (message_length _) c.put_messages.ensures
    (put_after _ _ marks_at 4 _ _ (low_length 4 _) (put_same _ _ (ap (low_bytes 4) c.marks_of.ensures) c.put4.ensures)
    (put_after _ _ latitude_at spot_size _ _ (spot_length _) c.put_spot.ensures
    (put_after _ _ even_at saved_size _ _ (saved_length _) c.put_saved.ensures c.put_saved-2.ensures))))
