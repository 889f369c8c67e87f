-- The two lines of RULES 12.9, the line of a coarse message, a line south of the equator and one of a track that has told nothing: computed.
-- Assumes nothing.
use Rattle.std.specs.Prelude.{Some, None}
use mathlib.Core.Path.{◌≡◌, refl}
use mathlib.Core.List.{[], ◌∷◌}
use lib.IntN.{pos, negsuc}
use Rattle.text.specs.Numbers.{decimal_in, decimal, hex, signed}
use Rattle.text.specs.Lines.{field, figure, header_text, sender_text, key_text, row_text}

-- clock 1400 tracks 1 bad-blocks 0
pub first_line :
    header_text 1400 1 0
    ≡ 99 ∷ 108 ∷ 111 ∷ 99 ∷ 107 ∷ 32 ∷ 49 ∷ 52 ∷ 48 ∷ 48
    ∷ 32 ∷ 116 ∷ 114 ∷ 97 ∷ 99 ∷ 107 ∷ 115 ∷ 32 ∷ 49
    ∷ 32 ∷ 98 ∷ 97 ∷ 100 ∷ 45 ∷ 98 ∷ 108 ∷ 111 ∷ 99 ∷ 107 ∷ 115 ∷ 32 ∷ 48 ∷ 10 ∷ []
unfolding decimal_in decimal field header_text
first_line = refl

-- I ABCDEF 1400 536870912 1073741824 10000 25
pub second_line :
    row_text (record { key = 0x1ABCDEF; heard = 1400; latitude = Some (pos 536870912); longitude = Some (pos 1073741824); altitude = Some (pos 10000); step = Some (pos 25) })
    ≡ 73 ∷ 32 ∷ 65 ∷ 66 ∷ 67 ∷ 68 ∷ 69 ∷ 70
    ∷ 32 ∷ 49 ∷ 52 ∷ 48 ∷ 48
    ∷ 32 ∷ 53 ∷ 51 ∷ 54 ∷ 56 ∷ 55 ∷ 48 ∷ 57 ∷ 49 ∷ 50
    ∷ 32 ∷ 49 ∷ 48 ∷ 55 ∷ 51 ∷ 55 ∷ 52 ∷ 49 ∷ 56 ∷ 50 ∷ 52
    ∷ 32 ∷ 49 ∷ 48 ∷ 48 ∷ 48 ∷ 48 ∷ 32 ∷ 50 ∷ 53 ∷ 10 ∷ []
unfolding decimal_in decimal hex signed field figure sender_text key_text row_text
second_line = refl

-- C ABCDEF 0 3 1400 536870912 1073741824 10000 25
pub coarse_line :
    row_text (record { key = 0x9579BDE3; heard = 1400; latitude = Some (pos 536870912); longitude = Some (pos 1073741824); altitude = Some (pos 10000); step = Some (pos 25) })
    ≡ 67 ∷ 32 ∷ 65 ∷ 66 ∷ 67 ∷ 68 ∷ 69 ∷ 70 ∷ 32 ∷ 48 ∷ 32 ∷ 51
    ∷ 32 ∷ 49 ∷ 52 ∷ 48 ∷ 48
    ∷ 32 ∷ 53 ∷ 51 ∷ 54 ∷ 56 ∷ 55 ∷ 48 ∷ 57 ∷ 49 ∷ 50
    ∷ 32 ∷ 49 ∷ 48 ∷ 55 ∷ 51 ∷ 55 ∷ 52 ∷ 49 ∷ 56 ∷ 50 ∷ 52
    ∷ 32 ∷ 49 ∷ 48 ∷ 48 ∷ 48 ∷ 48 ∷ 32 ∷ 50 ∷ 53 ∷ 10 ∷ []
unfolding decimal_in decimal hex signed field figure sender_text key_text row_text
coarse_line = refl

-- O 00000A 7 -1 0 -1000 100
pub south :
    row_text (record { key = 0x200000A; heard = 7; latitude = Some (negsuc 0); longitude = Some (pos 0); altitude = Some (negsuc 999); step = Some (pos 100) })
    ≡ 79 ∷ 32 ∷ 48 ∷ 48 ∷ 48 ∷ 48 ∷ 48 ∷ 65 ∷ 32 ∷ 55 ∷ 32 ∷ 45 ∷ 49 ∷ 32 ∷ 48 ∷ 32 ∷ 45 ∷ 49 ∷ 48 ∷ 48 ∷ 48 ∷ 32 ∷ 49 ∷ 48 ∷ 48 ∷ 10 ∷ []
unfolding decimal_in decimal hex signed field figure sender_text key_text row_text
south = refl

-- I 000001 0 - - - -
pub unknown :
    row_text (record { key = 0x1000001; heard = 0; latitude = None; longitude = None; altitude = None; step = None })
    ≡ 73 ∷ 32 ∷ 48 ∷ 48 ∷ 48 ∷ 48 ∷ 48 ∷ 49 ∷ 32 ∷ 48 ∷ 32 ∷ 45 ∷ 32 ∷ 45 ∷ 32 ∷ 45 ∷ 32 ∷ 45 ∷ 10 ∷ []
unfolding decimal_in decimal hex field figure sender_text key_text row_text
unknown = refl
