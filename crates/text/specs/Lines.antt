-- RULES 12.3, 12.4 and 17.9: a line of the listing as text, in ASCII.
use Rattle.std.specs.Prelude.{ℕ, ◌-◌, cond, List, [], ◌∷◌, ◌++◌, length, take, replicate, Option, Some, None, ℤ}
use Rattle.keys.specs.Keys.{letter_in, address_in, coarse_in, flag_in, station_in}
use Rattle.text.specs.Numbers.{decimal, hex, minus, signed}
use Rattle.text.specs.declared.Line.{Line}
use Rattle.text.specs.declared.Row.{Row}

abbrev pub space : List ℕ
space = 32 ∷ []

abbrev pub newline : List ℕ
newline = 10 ∷ []

-- a label and a number
unfoldable pub field : List ℕ → ℕ → List ℕ
field label n = label ++ decimal n

-- unknown is "-"
unfoldable pub figure : Option ℤ → List ℕ
figure None = space ++ minus
figure (Some z) = space ++ signed z

-- "clock "
abbrev pub clock_label : List ℕ
clock_label = 99 ∷ 108 ∷ 111 ∷ 99 ∷ 107 ∷ 32 ∷ []

-- " tracks "
abbrev pub tracks_label : List ℕ
tracks_label = 32 ∷ 116 ∷ 114 ∷ 97 ∷ 99 ∷ 107 ∷ 115 ∷ 32 ∷ []

-- " bad-blocks "
abbrev pub bad_label : List ℕ
bad_label = 32 ∷ 98 ∷ 97 ∷ 100 ∷ 45 ∷ 98 ∷ 108 ∷ 111 ∷ 99 ∷ 107 ∷ 115 ∷ 32 ∷ []

-- "clock C tracks T bad-blocks B"
unfoldable pub header_text : ℕ → ℕ → ℕ → List ℕ
header_text clock tracks bad = field clock_label clock ++ field tracks_label tracks ++ field bad_label bad ++ newline

-- of C the flag and the station
unfoldable pub sender_text : ℕ → List ℕ
sender_text key = cond (coarse_in key) (field space (flag_in key) ++ field space (station_in key)) []

-- kind, address in six hex digits, of C flag and station
unfoldable pub key_text : ℕ → List ℕ
key_text key = (letter_in key ∷ []) ++ space ++ hex 6 (address_in key) ++ sender_text key

-- kind, address, of C flag and station, last heard, latitude, longitude, pressure altitude, its step
unfoldable pub row_text : Row → List ℕ
row_text r = key_text r.key ++ field space r.heard ++ figure r.latitude ++ figure r.longitude ++ figure r.altitude ++ figure r.step ++ newline

-- how many bytes a line has room for
abbrev pub line_room : ℕ
line_room = 128

-- a text as a line: the text, then zeros
unfoldable pub line_of : List ℕ → Line
line_of text = record { bytes = text ++ replicate (line_room - length text) 0; len = length text }

-- .. and back
abbrev pub text_in : Line → List ℕ
text_in l = take l.len l.bytes
