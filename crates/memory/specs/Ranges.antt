-- RULES 9.4, 9.9 and 9.10: when a place of the lent table is held: its key and the body's latitude in their ranges, and its track in date.
use Rattle.std.specs.Prelude.{ℕ, Bool, ◌&&◌, List, leb}
use Rattle.keys.specs.Keys.{is_key}
use Rattle.track.specs.Held.{in_date}
use Rattle.memory.specs.Offsets.{heard_at, latitude_at}
use Rattle.memory.specs.Bytes.{number_at}

-- the key is one, and the latitude is from pole to pole
unfoldable pub in_range : ℕ → List ℕ → Bool
in_range key p = is_key key && leb (number_at 4 p latitude_at) 2147483648

-- in range, and in date
unfoldable pub held : ℕ → ℕ → List ℕ → Bool
held clock key p = in_range key p && in_date clock (number_at 8 p heard_at)
