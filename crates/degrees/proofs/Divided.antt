-- The definition of the way back says what it is to say: `units_of` gives n just for the double that is exactly n * 360 / 2^32. Its quotient is |n|, by one division.
-- Assumes nothing.
use Rattle.std.specs.Prelude.{Option, Some, None}
use Rattle.std.proofs.Common.{◌≡◌, ℕ, zero, suc, ◌+◌, ◌*◌, ◌/◌, ◌%◌, ◌<◌, Bool, true, false, cond, eqb, ℤ, pos, negsuc, nat_abs, sym, refl, ap, ◌∙◌, div-add-mod', mul-div_cancel, arith, eq-eqb, eqb-true}
use native.Mathlib.Nat.{mul-mod_left}
use lib.Ieee.{Float, nan, inf, fin, up, down}
use lib.Ieee.Fits.{down_pos}
use Rattle.degrees.specs.Value.{under, Exactly, signed, units_of}

pub none_some : (n : ℤ) → ◌≡◌ {A = Option ℤ} None (Some n) → ⊥
none_some n e = let z : ◌≡◌ {A = ℕ} 0 1 = cc in omega arith

-- a sign and a size, and the number that they are
signed_back : (n : ℤ) → signed (under n) (nat_abs n) ≡ Some n
signed_back (pos a) = refl
signed_back (negsuc a) = refl

signed_says : (s : Bool) (a : ℕ) (n : ℤ) → signed s a ≡ Some n → (s ≡ under n) × (a ≡ nat_abs n)
signed_says false a (pos b) e = (refl, cc)
signed_says false a (negsuc b) e = let z : ◌≡◌ {A = ℕ} 0 1 = cc in absurd (omega arith)
signed_says true zero n e = absurd (none_some n e)
signed_says true (suc a) (pos b) e = let z : ◌≡◌ {A = ℕ} 0 1 = cc in absurd (omega arith)
signed_says true (suc a) (negsuc b) e = (refl, let z : a ≡ b = cc in ap suc z)

-- q times 360 times a number above 0, over that
module _ (a q w : ℕ) (p : 0 < w) (e : a ≡ q * 360 * w) where
  right : a ≡ q * (360 * w)
  right = omega arith

  over_pos : 0 < 360 * w
  over_pos = omega arith

  no_rest : a % (360 * w) ≡ 0
  no_rest = ap (λ (x : ℕ). x % (360 * w)) right ∙ mul-mod_left q (360 * w)

  quotient : a / (360 * w) ≡ q
  quotient = ap (λ (x : ℕ). x / (360 * w)) right ∙ mul-div_cancel q over_pos

-- negative zero, whatever its exponent
pub minus_zero : (e : ℤ) → units_of (fin true 0 e) ≡ None
unfolding units_of
minus_zero e =
    let a : ℕ = 0 * up e * 4294967296 in
    let z : a ≡ 0 * 360 * down e = omega arith in
    rw (eq-eqb _ _ (no_rest a 0 (down e) (down_pos e) z), quotient a 0 (down e) (down_pos e) z)

module _ (s : Bool) (m : ℕ) (e : ℤ) where
  abbrev size : ℕ
  size = m * up e * 4294967296

  abbrev over : ℕ
  over = 360 * down e

  of_rest : (b : Bool) (n : ℤ) → eqb (size % over) 0 ≡ b → cond b (signed s (size / over)) None ≡ Some n → Exactly (fin s m e) n
  of_rest true n r h =
      let g = signed_says s (size / over) n h in
      (g.0, sym (div-add-mod' size over) ∙ rw (eqb-true (size % over) 0 r, g.1) (let q : nat_abs n * over + 0 ≡ nat_abs n * 360 * down e = omega arith in q))
  of_rest false n r h = absurd (none_some n h)

pub exact_units : (x : Float) (n : ℤ) → Exactly x n → units_of x ≡ Some n
unfolding units_of
exact_units nan n v = absurd v
exact_units (inf s) n v = absurd v
exact_units (fin s m e) n v =
    let a : ℕ = m * up e * 4294967296 in
    rw (eq-eqb _ _ (no_rest a (nat_abs n) (down e) (down_pos e) v.1), quotient a (nat_abs n) (down e) (down_pos e) v.1, v.0) (signed_back n)

pub units_exact : (x : Float) (n : ℤ) → units_of x ≡ Some n → Exactly x n
unfolding units_of
units_exact nan n h = none_some n h
units_exact (inf s) n h = none_some n h
units_exact (fin s m e) n h = of_rest s m e (eqb (m * up e * 4294967296 % (360 * down e)) 0) n refl h
