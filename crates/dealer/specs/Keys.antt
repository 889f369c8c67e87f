-- RULES 18.1: the key of a message for another language: that of the track that the message belongs to, or why it is refused.
use Rattle.std.specs.Prelude.{ℕ, List, [], ◌∷◌, Result, Ok, Err}
use Rattle.refusals.specs.Numbers.{number_of}
use Rattle.refusals.specs.Said.{Said, number, gives}
use Rattle.messages.specs.Message.{key_of}
use Rattle.messages.specs.declared.Message.{Message}
use Rattle.refusals.specs.declared.Refusal.{Refusal}

-- 1, then 3, 4 and 5, as a message is decoded
abbrev pub key_said : Result Message Refusal → Said (List ℕ)
key_said (Ok m) = gives (key_of m ∷ [])
key_said (Err r) = number (number_of r)
