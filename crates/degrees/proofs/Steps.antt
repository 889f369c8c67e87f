-- The code's operations on a double whose value is known: each is the exact result, rounded; and the cast and the product are exact, so that nothing is rounded.
-- Assumes nothing.
use Rattle.std.proofs.Common.{◌≡◌, ℕ, ◌*◌, ◌^◌, ◌<◌, ◌≤◌, Bool, true, false, ℤ, pos, negsuc, nat_abs, sym, refl, ap, ◌∙◌, subst, arith, lit<}
use lib.Ieee.{Float, nan, inf, fin, binary64, up, down, unlike, round, mul, div, of_int, of_bits}
use lib.Ieee.Exact.{HasValue}
use lib.Ieee.Fits.{down_pos}
use lib.Ieee.Back.{round_whole}
use lib.Ieee.Scale.{round_same}
use Rattle.degrees.specs.Value.{under, Exactly, degrees_of}
use Rattle.degrees.proofs.Exact.{exactly}

like : (t s : Bool) → t ≡ s → unlike t false ≡ s
like false s e = e
like true s e = e

one_pos : {w : ℕ} → 0 < w → 0 < w * 1
one_pos h = omega arith

-- times the whole number p * 2^j
pub mul_by : (x : Float) (s : Bool) (a c p j : ℕ) → 0 < c → HasValue x s a c → mul binary64 x (fin false p (pos j)) ≡ round binary64 s (a * (p * 2 ^ j)) c
unfolding mul
mul_by nan s a c p j h v = absurd v
mul_by (inf t) s a c p j h v = absurd v
mul_by (fin t m e) s a c p j h v =
    let b : ℕ = p * 2 ^ j in
    let k : m * up e * c * b ≡ a * down e * b = ap (λ (y : ℕ). y * b) v.1 in
    ap (λ (y : Bool). round binary64 y (m * up e * b) (down e * 1)) (like t s v.0)
    ∙ round_same binary64 s (m * up e * b) (down e * 1) (a * b) c (one_pos (down_pos e)) h (omega arith)

more_pos : {w : ℕ} → 0 < w → 0 < 4294967296 * w
more_pos h = omega arith

-- over 2^32
div_turn : (x : Float) (s : Bool) (a : ℕ) → HasValue x s a 1 → div binary64 x (fin false 1 (pos 32)) ≡ round binary64 s a 4294967296
unfolding div
div_turn nan s a v = absurd v
div_turn (inf t) s a v = absurd v
div_turn (fin t m e) s a v =
    ap (λ (y : Bool). round binary64 y (m * up e * 1) (4294967296 * down e)) (like t s v.0)
    ∙ round_same binary64 s (m * up e * 1) (4294967296 * down e) a 4294967296 (more_pos (down_pos e)) (lit< tt) (omega (arith, v.1))

-- a whole number as a double
of_int_is : (n : ℤ) → of_int binary64 n ≡ round binary64 (under n) (nat_abs n) 1
unfolding of_int
of_int_is (pos n) = refl
of_int_is (negsuc n) = refl

-- ---- n as f64, times 360, over 2^32

abbrev cast : ℤ → Float
cast n = of_int binary64 n

abbrev product : ℤ → Float
product n = mul binary64 (cast n) (fin false 45 (pos 3))

module _ (n : ℤ) (h : nat_abs n ≤ 2147483648) where
  cast_exact : HasValue (cast n) (under n) (nat_abs n) 1
  cast_exact = subst (λ (y : Float). HasValue y (under n) (nat_abs n) 1) (sym (of_int_is n)) (round_whole binary64 (under n) (nat_abs n) (omega arith))

  product_is : product n ≡ round binary64 (under n) (nat_abs n * 360) 1
  product_is = mul_by (cast n) (under n) (nat_abs n) 1 45 3 (lit< tt) cast_exact

  product_exact : HasValue (product n) (under n) (nat_abs n * 360) 1
  product_exact = subst (λ (y : Float). HasValue y (under n) (nat_abs n * 360) 1) (sym product_is) (round_whole binary64 (under n) (nat_abs n * 360) (omega arith))

  pub figure_is : div binary64 (mul binary64 (of_int binary64 n) (of_bits binary64 4645040803167600640)) (of_bits binary64 4751297606875873280) ≡ degrees_of n
  unfolding degrees_of of_bits
  figure_is = div_turn (product n) (under n) (nat_abs n * 360) product_exact

  -- no rounding at any step: the cast is n, the product 360 n, the quotient n * 360 / 2^32
  pub steps_exact : HasValue (cast n) (under n) (nat_abs n) 1
      × HasValue (product n) (under n) (nat_abs n * 360) 1
      × Exactly (div binary64 (product n) (fin false 1 (pos 32))) n
  unfolding degrees_of
  steps_exact =
      (cast_exact, product_exact, subst (λ (y : Float). Exactly y n) (sym (div_turn (product n) (under n) (nat_abs n * 360) product_exact)) (exactly n h))
