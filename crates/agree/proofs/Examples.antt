-- Lines against a row on the meridian of 0, by their figures: one unit away around the circle, two units, a turn, and unknown. Each is computed.
-- Assumes nothing.
use Rattle.std.specs.Prelude.{Option, Some, None, ℤ}
use mathlib.Core.Path.{◌≡◌, refl}
use mathlib.Core.Bool.{Bool, true, false}
use lib.IntN.{pos, negsuc}
use Rattle.text.specs.Numbers.{decimal_in, decimal, hex, signed}
use Rattle.text.specs.Lines.{field, figure, key_text, sender_text, row_text}
use Rattle.text.specs.declared.Row.{Row}
use Rattle.form.specs.Form.{same}
use Rattle.agree.specs.Near.{placed, shows, along, agrees_of}

-- I ABCDEF 1400 0 0 10000 25
abbrev row : Row
row = record { key = 0x1ABCDEF; heard = 1400; latitude = Some (pos 0); longitude = Some (pos 0); altitude = Some (pos 10000); step = Some (pos 25) }

-- whether its line with another latitude and longitude agrees
abbrev taken : Option ℤ → Option ℤ → Bool
taken y x = agrees_of (row_text (placed row y x)) row

pub unit_away : taken (Some (negsuc 0)) (Some (pos 1)) ≡ true
unfolding agrees_of along shows same row_text key_text sender_text field figure hex decimal decimal_in signed
unit_away = refl

-- 4294967295 is one unit west of 0
pub around : taken (Some (pos 1)) (Some (pos 4294967295)) ≡ true
unfolding agrees_of along shows same row_text key_text sender_text field figure hex decimal decimal_in signed
around = refl

-- .. and 4294967296, which is 0 around the circle, is no longitude; nor is -1
pub no_longitude : taken (Some (pos 0)) (Some (pos 4294967296)) ≡ false
unfolding agrees_of along shows same row_text key_text sender_text field figure hex decimal decimal_in signed
no_longitude = refl

pub below_zero : taken (Some (pos 0)) (Some (negsuc 0)) ≡ false
unfolding agrees_of along shows same row_text key_text sender_text field figure hex decimal decimal_in signed
below_zero = refl

pub two_units : taken (Some (pos 2)) (Some (pos 0)) ≡ false
unfolding agrees_of along shows same row_text key_text sender_text field figure hex decimal decimal_in signed
two_units = refl

-- "-" only with "-"
pub unknown_known : taken None (Some (pos 0)) ≡ false
unfolding agrees_of along shows same row_text key_text sender_text field figure hex decimal decimal_in signed
unknown_known = refl
