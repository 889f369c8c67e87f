-- `position_vectors::double_of` is safe: a pattern whose lower 63 bits are at most those of infinity is that of a number.
use Prim.Native.Nat.{ℕ, ◌/◌, ◌%◌, ◌≤◌}
use mathlib.Core.Path.{◌≡◌, refl}
use mathlib.Core.Bool.{Bool, true, false, not, ◌&&◌}
use native.Mathlib.Omega.{arith}
use borrow.Author.Tests.{eq-eqb, eqb-true}
use lib.Dec.{T, eqb}
use lib.Ieee.{binary64, nan_bits}
use Rattle.position_vectors.proofs.double_of.Goals as goal

a-number : (b : ℕ) → b % 9223372036854775808 ≤ 9218868437227405312 → T (not (nan_bits binary64 b))
unfolding nan_bits
a-number b h = by_test (eqb (b % 9223372036854775808 / 4503599627370496) 2047) refl
  where
    by_test : (t : Bool) → eqb (b % 9223372036854775808 / 4503599627370496) 2047 ≡ t → T (not (t && not (eqb (b % 4503599627370496) 0)))
    by_test true e = rw (eq-eqb (b % 4503599627370496) 0 (omega (arith, eqb-true (b % 9223372036854775808 / 4503599627370496) 2047 e))) tt
    by_test false e = tt

pub float_from_bits-result : goal.float_from_bits-result
float_from_bits-result c = a-number c.args.pattern c.if-pattern-gt9218868437227405312.false
