-- A number of 32 bits raised by 2^32, as the machine adds it, and its bound, by the sign.
-- Assumes nothing.
use Prim.Native.Nat.{suc, ◌^◌, ◌<◌}
use mathlib.Core.Path.{◌≡◌, refl}
use native.Mathlib.Omega.{arith}
use borrow.Author.Tests.{le-ltb}
use lib.IntN.{ℤ, pos, negsuc, ◌+ℤ◌}
use lib.Signed.{mag}
use Rattle.signs.specs.Raised.{raised}

pub raise_is : (z : ℤ) → mag z < 2 ^ 31 → z +ℤ pos 4294967296 ≡ pos (raised z)
raise_is (pos a) h = refl
raise_is (negsuc a) h = rw (le-ltb 4294967296 (suc a) (omega arith))

pub raise_small : (z : ℤ) → mag z < 2 ^ 31 → raised z < 2 ^ 33
raise_small (pos a) h = omega arith
raise_small (negsuc a) h = omega arith
