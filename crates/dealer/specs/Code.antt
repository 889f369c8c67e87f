-- What a private step promises: the key of a frame, of which nothing is unpacked. No public contract cites this file.
use Rattle.std.specs.Prelude.{ℕ, List, [], ◌∷◌, Result, Ok, Err}
use Rattle.refusals.specs.Numbers.{number_of}
use Rattle.refusals.specs.Said.{Said, number, gives}
use Rattle.messages.specs.Accepted.{frame_key}
use Rattle.messages.specs.declared.Frame.{Frame}
use Rattle.refusals.specs.declared.Refusal.{Refusal}

abbrev pub accepted_key : Result Frame Refusal → Said (List ℕ)
accepted_key (Ok f) = gives (frame_key f ∷ [])
accepted_key (Err r) = number (number_of r)
