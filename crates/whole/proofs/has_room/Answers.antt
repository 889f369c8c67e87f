-- `whole::has_room` meets its contract: the tests are the definition's, the buffer's length divided.
use Rattle.whole.proofs.Steps.{room_is}
use Rattle.whole.proofs.has_room.Goals as goal

pub returns : goal.returns
returns c = room_is _ _ _ c.places_of-n.ensures
