-- The crossings between whole numbers of either sign and the code's unsigned ones: a longitude taken in and out, and the range of each.
-- Assumes nothing.
use Rattle.std.proofs.Common.{◌≡◌, ℕ, zero, suc, ◌+◌, ◌-◌, ◌^◌, ◌<◌, ◌≤◌, ℤ, pos, negsuc, ◌-ℤ◌, nat_abs, refl, sym, ap, ◌∙◌, ⊎_elim, arith, le-ltb, lt-ltb}
use Rattle.std.proofs.Math.Facts.{to_z-neg, to_z_pos}
use Rattle.std.specs.Int.{w32, cast_signed as to_z}
use lib.Signed.{mag, nat_abs-le}
use Rattle.signs.specs.Raised.{raised}
use Rattle.positions.proofs.Shift.{order, sub_neg}
use Rattle.degrees.specs.Ways.{centred}

pub minus_is : (k : ℕ) → negsuc 0 -ℤ pos k ≡ negsuc k
minus_is zero = refl
minus_is (suc k) = ap negsuc {x = suc (0 + k)} {y = suc k} (omega arith)

-- ---- a longitude taken in

pub east : (n : ℕ) → n < 2147483648 → centred n ≡ pos n
unfolding centred
east n h = simp (lt-ltb n 2147483648 h)

pub west : (n : ℕ) → 2147483648 ≤ n → n < 4294967296 → centred n ≡ negsuc (4294967295 - n)
unfolding centred
west n l h = simp (le-ltb n 2147483648 l) (sub_neg n 4294967296 h ∙ ap negsuc {x = 4294967296 - suc n} {y = 4294967295 - n} (omega arith))

pub centred_mag : (n : ℕ) → n < 2 ^ 32 → mag (centred n) < 2147483648
centred_mag n h =
    ⊎_elim
    (λ (l : 2147483648 ≤ n). rw (west n l h) (omega arith))
    (λ (l : n < 2147483648). rw (east n l) (omega arith))
    (order n 2147483648)

-- ---- and out

pub out_west : (z : ℤ) → mag z < 2147483648 → raised z < 4294967296 → centred (raised z) ≡ z
out_west (pos a) s h = absurd (omega arith)
out_west (negsuc a) s h =
    west (4294967296 - suc a) (omega arith) (omega arith) ∙ ap negsuc {x = 4294967295 - (4294967296 - suc a)} {y = a} (omega arith)

pub out_east : (z : ℤ) → mag z < 2147483648 → 4294967296 ≤ raised z → centred (raised z - 4294967296) ≡ z
out_east (pos a) s h = east (a + 4294967296 - 4294967296) (omega arith) ∙ ap pos {x = a + 4294967296 - 4294967296} {y = a} (omega arith)
out_east (negsuc a) s h = absurd (omega arith)

-- ---- the ranges

pub quarter_mag : (z : ℤ) → nat_abs z ≤ 2 ^ 30 → mag z < 2147483648
quarter_mag (pos a) h = omega arith
quarter_mag (negsuc a) h = omega arith

pub quarter : (z : ℤ) → nat_abs z ≤ 2 ^ 30 → nat_abs z ≤ 2147483648
quarter z h = omega arith

pub half : (n : ℕ) → n < 2 ^ 32 → nat_abs (centred n) ≤ 2147483648
half n h = nat_abs-le (centred n) (centred_mag n h)

-- the code's way in and out is the machine's own reading of 32 bits
pub signed_is : (n : ℕ) → n < 2 ^ 32 → to_z w32 n ≡ centred n
signed_is n h =
    ⊎_elim
    (λ (l : 2147483648 ≤ n).
    ap (to_z w32) {x = n} {y = 2 ^ 32 - suc (4294967295 - n)} (omega arith) ∙ to_z-neg w32 (4294967295 - n) (omega arith) ∙ sym (west n l h))
    (λ (l : n < 2147483648). to_z_pos w32 {n = n} l ∙ sym (east n l))
    (order n 2147483648)
