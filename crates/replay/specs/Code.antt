-- What private functions promise to each other: the track that a message steps, by whether it starts one. No public contract cites this file.
use Rattle.std.specs.Prelude.{Bool, cond, Option, Some, None}
use Rattle.track.specs.declared.Track.{Track}
use Rattle.track.specs.Track.{new_track}

abbrev pub begun : Bool → Option Track → Option Track
begun starts None = cond starts (Some new_track) None
begun starts (Some t) = Some t
