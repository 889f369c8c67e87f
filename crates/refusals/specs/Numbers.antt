-- RULES 3.2: the numbers that come back.
use Rattle.std.specs.Prelude.{ℕ}
use Rattle.refusals.specs.declared.Refusal.{Refusal}
use Rattle.refusals.specs.declared.Refusal.TheVariants.{Length, Late, Parity, Format, TypeCode, Full, Places, Field, Latitude, Zones, Block, NoTrack, Overrun, Log, Degrees, Form}

abbrev pub number_of : Refusal → ℕ
number_of Length = 1
number_of Late = 2
number_of Parity = 3
number_of Format = 4
number_of TypeCode = 5
number_of Full = 6
number_of Places = 7
number_of Field = 8
number_of Latitude = 9
number_of Zones = 10
number_of Block = 11
number_of NoTrack = 12
number_of Overrun = 13
number_of Log = 14
number_of Degrees = 15
number_of Form = 16

-- more records than these earn 14: those of a log, and those in the good blocks of a capture that a listing is checked against
abbrev pub most_records : ℕ
most_records = 2900
