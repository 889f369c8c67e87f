-- RULES 20.5: what is handed out of a track that was asked for, in a table or of a log.
use Rattle.std.specs.Prelude.{ℕ, List, [], ◌∷◌, Option, Some, None, Result, Ok, Err}
use Rattle.refusals.specs.Numbers.{number_of}
use Rattle.refusals.specs.Said.{Said, number, gives}
use Rattle.track.specs.declared.Track.{Track}
use Rattle.track_rows.specs.Tracks.{track_row}
use Rattle.refusals.specs.declared.Refusal.{Refusal}

-- the track of a key that is held; zeros for one that is not
abbrev pub looked_said : ℕ → Result (Option Track) Refusal → Said (List ℕ)
looked_said key (Ok (Some t)) = gives (track_row key t)
looked_said key (Ok None) = gives (0 ∷ [])
looked_said key (Err r) = number (number_of r)
