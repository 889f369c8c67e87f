-- RULES 15.1 to 15.3: one figure in degrees, over whole numbers: n units of 2^-32 of a turn are n * 360 / 2^32 degrees; and back, of a double the n of which it is that.
use Rattle.std.specs.Prelude.{ℕ, zero, suc, ◌*◌, ◌/◌, ◌%◌, Bool, true, false, cond, ℤ, pos, negsuc, ◌==◌, unsigned_abs, Float, Option, Some, None}
use Rattle.std.specs.Float.{nan, inf, fin, binary64}
use Rattle.std.specs.Float.Ieee.{up, down, round}
use Rattle.std.specs.Float.Ieee.Exact.{HasValue}

-- whether n is below zero; 0 is not, so that its figure is positive zero
abbrev pub under : ℤ → Bool
under (pos n) = false
under (negsuc n) = true

-- the double x is exactly n * 360 / 2^32: it is finite, has n's sign, and of its size m * 2^e is m * 2^e * 2^32 = |n| * 360
abbrev pub Exactly : Float → ℤ → Type 0
Exactly x n = HasValue x (under n) (unsigned_abs n * 360) 4294967296

-- n in degrees: the double nearest to that fraction, which is that fraction (`exactly` in proofs/Exact)
unfoldable pub degrees_of : ℤ → Float
degrees_of n = round binary64 (under n) (unsigned_abs n * 360) 4294967296

-- a sign and a size as a number; negative zero is none
abbrev pub signed : Bool → ℕ → Option ℤ
signed false a = Some (pos a)
signed true zero = None
signed true (suc a) = Some (negsuc a)

-- the n of which a double is the figure: m * 2^e * 2^32 / 360 with its sign, where that is a whole number. Here 2^e is up e / down e
unfoldable pub units_of : Float → Option ℤ
units_of nan = None
units_of (inf s) = None
units_of (fin s m e) =
    let a = m * up e * 4294967296 in
    let d = 360 * down e in
    cond (a % d == 0) (signed s (a / d)) None
