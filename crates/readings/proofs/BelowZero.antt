-- A difference of two numbers of 31 bits fits an `i32`, by which of them is the larger; and a difference from or of 0.
-- Assumes nothing.
use Prim.Native.Nat.{ℕ, zero, suc, ◌-◌, ◌^◌, ◌<◌}
use mathlib.Core.Path.{◌≡◌, refl, ap, subst, ◌∙◌}
use mathlib.Core.Bool.{Bool, true, false, cond}
use native.Mathlib.Nat.{add-zero}
use native.Mathlib.Omega.{arith}
use borrow.Author.Tests.{lt-ltb}
use lib.Dec.{ltb, eqb}
use lib.IntN.{ℤ, pos, negsuc, neg_ℤ, ◌-ℤ◌}
use lib.Signed.{mag}
use mir.Syntax.{w32}
use mir.Facts.{to_z-of_z}
use mir.Val.{SFits, to_z, of_z}
use Rattle.readings.specs.Amounts.{signed}

mag_less : (n k : ℕ) → n < 2 ^ 31 → k < 2 ^ 31 → mag (pos n -ℤ pos k) < 2 ^ 31
mag_less n zero h g = omega arith
mag_less n (suc j) h g = go (ltb n (suc j))
  where
    go : (t : Bool) → mag (cond t (negsuc (suc j - suc n)) (pos (n - suc j))) < 2 ^ 31
    go true = omega arith
    go false = omega arith

pub less_fits : (n k : ℕ) → n < 2 ^ 31 → k < 2 ^ 31 → SFits w32 (pos n -ℤ pos k)
less_fits n k h g = record { sfits = mag_less n k h g }

pub below : (n : ℕ) → pos 0 -ℤ pos n ≡ neg_ℤ (pos n)
below zero = refl
below (suc n) =
    let h : 0 < suc n = omega arith in
    rw (lt-ltb 0 (suc n) h) (ap negsuc {x = suc n - 1} {y = n} (omega arith))

pub above : (n : ℕ) → pos n -ℤ pos 0 ≡ pos n
above n = ap pos (add-zero n)

-- a number that was stored as an `i32` is the number
pub kept : {r z : ℤ} → SFits w32 z → r ≡ z → to_z w32 (of_z w32 r) ≡ z
kept h e = ap (λ (x : ℤ). to_z w32 (of_z w32 x)) e ∙ to_z-of_z h

pub below_fits : (n : ℕ) → n < 2 ^ 31 → SFits w32 (neg_ℤ (pos n))
below_fits n h = subst (SFits w32) (below n) (less_fits 0 n (omega arith) h)

pub above_fits : (n : ℕ) → n < 2 ^ 31 → SFits w32 (pos n)
above_fits n h = subst (SFits w32) (above n) (less_fits n 0 h (omega arith))

pub signed_fits : (sign n : ℕ) → n < 2 ^ 31 → SFits w32 (signed sign n)
unfolding signed
signed_fits sign n h = go (eqb sign 1)
  where
    go : (t : Bool) → SFits w32 (cond t (neg_ℤ (pos n)) (pos n))
    go true = below_fits n h
    go false = above_fits n h
