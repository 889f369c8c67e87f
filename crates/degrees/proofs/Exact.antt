-- The fraction n * 360 / 2^32 is a double for every |n| ≤ 2^31, for |n| * 360 has less than 53 bits; and it says which n.
-- Assumes nothing.
use Rattle.std.proofs.Common.{◌≡◌, ℕ, ◌*◌, ◌^◌, ◌<◌, ◌≤◌, T, ℤ, pos, negsuc, nat_abs, sym, ap, ◌∙◌, true≢false, lt_trans, mul_assoc, arith, lit<, shl_lt}
use mathlib.Core.Bool.{false≢true}
use native.Mathlib.Nat.{eq_of_mul-eq-mul_right}
use lib.Ieee.{Float, nan, inf, fin, binary64, down, fits}
use lib.Ieee.Exact.{round_exact}
use lib.Ieee.Fits.{down_pos, round-fits}
use Rattle.degrees.specs.Value.{under, Exactly, degrees_of}

small : (a : ℕ) → a ≤ 2147483648 → a * 360 < 9007199254740992
small a h = omega arith

pub exactly : (n : ℤ) → nat_abs n ≤ 2147483648 → Exactly (degrees_of n) n
unfolding degrees_of
exactly n h =
    let q : ℕ = nat_abs n * 360 in
    round_exact binary64 (under n) q 4294967296 q 1042 (lit< tt) (small (nat_abs n) h)
    (lt_trans (shl_lt 53 1042 (small (nat_abs n) h)) (lit< tt))
    (sym (mul_assoc q (2 ^ 1042) 4294967296))

pub degrees_fits : (n : ℤ) → T (fits binary64 (degrees_of n))
unfolding degrees_of
degrees_fits n = round-fits binary64 (under n) (nat_abs n * 360) 4294967296

-- ---- different numbers, different doubles

same_size_lem : (a b : ℕ) → a * 360 ≡ b * 360 → a ≡ b
same_size_lem a b h = omega arith

sized : (n k : ℤ) → under n ≡ under k → nat_abs n ≡ nat_abs k → n ≡ k
sized (pos a) (pos b) s e = ap pos e
sized (pos a) (negsuc b) s e = absurd (false≢true s)
sized (negsuc a) (pos b) s e = absurd (true≢false s)
sized (negsuc a) (negsuc b) s e = ap negsuc {x = a} {y = b} (omega arith)

pub says : (x : Float) (n k : ℤ) → Exactly x n → Exactly x k → n ≡ k
says nan n k p q = absurd p
says (inf t) n k p q = absurd p
says (fin t m e) n k p q =
    sized n k (sym p.0 ∙ q.0)
    (same_size_lem (nat_abs n) (nat_abs k) (eq_of_mul-eq-mul_right (down e) (down_pos e) (nat_abs n * 360) (nat_abs k * 360) (sym p.1 ∙ q.1)))
