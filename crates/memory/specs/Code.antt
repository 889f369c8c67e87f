-- What private functions promise to each other: how many bytes some values of a track take together. No public contract cites this file.
use Rattle.std.specs.Prelude.{ℕ, ◌-◌}
use Rattle.memory.specs.Offsets.{identification_at, marks_at, latitude_at, even_at}

-- the messages that are kept
abbrev pub messages_size : ℕ
messages_size = marks_at - identification_at

-- the spot with its time
abbrev pub spot_size : ℕ
spot_size = even_at - latitude_at
