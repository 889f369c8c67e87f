-- What private functions promise to each other: an altitude of a Gray code by its two parts. No public contract cites this file.
use Rattle.std.specs.Prelude.{ℕ, Option, None}
use Rattle.readings.specs.declared.altitude.Altitude.{Altitude}
use Rattle.readings.specs.Altitude.{hundreds_by, known}

unfoldable pub by_hundreds : ℕ → ℕ → Option Altitude
by_hundreds f h = hundreds_by None known f h
