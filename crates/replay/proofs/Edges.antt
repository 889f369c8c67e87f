-- The edges of a log and of a kind, computed on both sides: empty and of 2,900 records it is a log, and one record more, one byte more or one byte less is none; the flag 1 and the station 15
-- are not too wide, and one more is.
-- Assumes nothing.
use mathlib.Core.Path.{◌≡◌, refl}
use mathlib.Core.Bool.{true, false}
use Rattle.keys.specs.declared.Kind.TheVariants.{C}
use Rattle.replay.specs.Replay.{is_log, is_wide}

pub log_edge : (is_log 0 ≡ true) × (is_log 63800 ≡ true) × (is_log 63822 ≡ false) × (is_log 63801 ≡ false) × (is_log 21 ≡ false)
log_edge = (refl, refl, refl, refl, refl)

pub kind_edge : (is_wide (C 1 15) ≡ false) × (is_wide (C 2 15) ≡ true) × (is_wide (C 1 16) ≡ true)
kind_edge = (refl, refl, refl)
