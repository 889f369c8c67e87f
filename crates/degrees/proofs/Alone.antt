-- A value is one double: two doubles of one sign and one size are equal, for their bit patterns are computed from the two.
-- Assumes nothing.
use Rattle.std.proofs.Common.{◌≡◌, ℕ, ◌+◌, ◌-◌, ◌*◌, ◌/◌, ◌^◌, ◌<◌, ◌≤◌, Bool, cond, T, ℤ, nat_abs, sym, ap, ◌∙◌, mul_right_comm, lit<}
use lib.Ieee.{Float, nan, inf, fin, Format, prec, low, up, down, hid, top, size, fits, to_bits, of_bits, binary64}
use lib.Ieee.Exact.{HasValue}
use lib.Ieee.Fits.{down_pos}
use lib.Ieee.Bits.{of_bits-to_bits}
use lib.Ieee.Nearest.{div_same}
use Rattle.degrees.specs.Value.{under, Exactly, degrees_of}
use Rattle.degrees.proofs.Exact.{exactly, degrees_fits}

pub same_bits : (f : Format) (x y : Float) → T (fits f x) → T (fits f y) → to_bits f x ≡ to_bits f y → x ≡ y
same_bits f x y p q e = sym (of_bits-to_bits f x p) ∙ ap (of_bits f) e ∙ of_bits-to_bits f y q

-- the pattern of a sign and a size in units of the format's smallest value
abbrev pattern : Format → Bool → ℕ → ℕ
pattern f s n = cond s (top f) 0 + (size n - prec f) * hid f + n / 2 ^ (size n - prec f)

pattern_is : (f : Format) (x : Float) (s : Bool) (a c : ℕ) → 0 < c → HasValue x s a c → to_bits f x ≡ pattern f s (a * 2 ^ low f / c)
unfolding to_bits
pattern_is f nan s a c h v = absurd v
pattern_is f (inf t) s a c h v = absurd v
pattern_is f (fin t m e) s a c h v =
    let l : ℕ = 2 ^ low f in
    let k : m * up e * l * c ≡ a * l * down e = mul_right_comm (m * up e) l c ∙ ap (λ (y : ℕ). y * l) v.1 ∙ mul_right_comm a (down e) l in
    ap (λ (y : Bool). pattern f y (m * up e * l / down e)) v.0
    ∙ ap (λ (y : ℕ). pattern f s y) (div_same (m * up e * l) (down e) (a * l) c (down_pos e) h k)

value_unique : (f : Format) (x y : Float) (s : Bool) (a c : ℕ) → 0 < c → T (fits f x) → T (fits f y) → HasValue x s a c → HasValue y s a c → x ≡ y
value_unique f x y s a c h p q v w = same_bits f x y p q (pattern_is f x s a c h v ∙ sym (pattern_is f y s a c h w))

-- the double that is exactly n * 360 / 2^32 is `degrees_of n`
pub only : (x : Float) (n : ℤ) → nat_abs n ≤ 2147483648 → T (fits binary64 x) → Exactly x n → x ≡ degrees_of n
only x n h p v = value_unique binary64 x (degrees_of n) (under n) (nat_abs n * 360) 4294967296 (lit< tt) p (degrees_fits n) v (exactly n h)
