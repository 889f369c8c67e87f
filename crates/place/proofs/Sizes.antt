-- How many bytes each part of a body has, read off its parts, and what a flag weighs.
-- Assumes nothing.
use mathlib.Core.Path.{◌≡◌, refl}
use mathlib.Core.Bool.{Bool, true, false}
use lib.ListN.{length}
use Rattle.std.specs.Int.{from_bool}
use Rattle.memory.specs.Offsets.{saved_size, body_size}
use Rattle.memory.specs.Code.{messages_size, spot_size}
use Rattle.track.specs.declared.Groups.{Groups}
use Rattle.whereabouts.specs.declared.Position.{Position}
use Rattle.whereabouts.specs.declared.Saved.{Saved}
use Rattle.track.specs.declared.Track.{Track}
use Rattle.memory.specs.Bytes.{low_bytes}
use Rattle.place.specs.Place.{bit, saved_bytes, message_bytes, spot_bytes, body_of}

pub saved_length : (v : Saved) → length (saved_bytes v) ≡ saved_size
unfolding saved_bytes low_bytes
saved_length v = refl

pub message_length : (g : Groups) → length (message_bytes g) ≡ messages_size
unfolding message_bytes low_bytes
message_length g = refl

pub spot_length : (p : Position) → length (spot_bytes p) ≡ spot_size
unfolding spot_bytes low_bytes
spot_length p = refl

pub body_length : (t : Track) → length (body_of t) ≡ body_size
unfolding body_of saved_bytes message_bytes spot_bytes low_bytes
body_length t = refl

-- a flag as a number is its bit
pub bit_is : (b : Bool) → from_bool b ≡ bit b
bit_is true = refl
bit_is false = refl
