-- Packing and unpacking are inverse to each other, for every list of widths: by induction over the widths, a field at a time.
-- Assumes nothing.
use Prim.Native.Nat.{ℕ, ◌+◌, ◌*◌, ◌/◌, ◌%◌, ◌^◌, ◌<◌}
use mathlib.Core.Path.{◌≡◌, refl, sym, ap, ap₂, ◌∙◌}
use mathlib.Core.List.{List, [], ◌∷◌, ◌++◌}
use native.Mathlib.Nat.{mod-lt, mod-eq_of_lt, mul-add-div_right, mul-add-mod_self_right, mul_assoc, add-mul, add_assoc}
use native.Mathlib.Omega.{arith}
use lib.Arith.{digits_lt}
use lib.Pow.{pow_pos, pow-add, high, mod-pow-add}
use lib.ListN.{length}
use Rattle.fields.specs.Packing.{total, pack, unpack, Fit}

-- a packed number is below 2 to the layout's bits
pub pack_lt : (ws ds : List ℕ) → Fit ws ds → pack ws ds < 2 ^ total ws
pack_lt [] [] f = omega arith
pack_lt [] (d ∷ ds) f = absurd f
pack_lt (w ∷ ws) [] f = absurd f
pack_lt (w ∷ ws) (d ∷ ds) f = rw (pow-add 2 w (total ws)) (digits_lt f.0 (pack_lt ws ds f.1))

shift : (a w t p : ℕ) → a * 2 ^ (w + t) + p ≡ a * 2 ^ w * 2 ^ t + p
shift a w t p = ap (λ (x : ℕ). x + p) (ap (λ (x : ℕ). a * x) (pow-add 2 w t) ∙ sym (mul_assoc a (2 ^ w) (2 ^ t)))

-- what lies above a layout's bits does not count
pub unpack_above : (ws : List ℕ) (a p : ℕ) → unpack ws (a * 2 ^ total ws + p) ≡ unpack ws p
unpack_above [] a p = refl
unpack_above (w ∷ ws) a p =
    let t : ℕ = total ws in
    ap₂ (λ (d : ℕ) (ds : List ℕ). d ∷ ds)
    (ap (λ (n : ℕ). n / 2 ^ t % 2 ^ w) (shift a w t p) ∙ ap (λ (n : ℕ). n % 2 ^ w) (mul-add-div_right (pow_pos t) (a * 2 ^ w) p) ∙ mul-add-mod_self_right a (2 ^ w) (p / 2 ^ t))
    (ap (unpack ws) (shift a w t p) ∙ unpack_above ws (a * 2 ^ w) p)

-- the fields of a packed number are those that were packed
pub unpack_pack : (ws ds : List ℕ) → Fit ws ds → unpack ws (pack ws ds) ≡ ds
unpack_pack [] [] f = refl
unpack_pack [] (d ∷ ds) f = absurd f
unpack_pack (w ∷ ws) [] f = absurd f
unpack_pack (w ∷ ws) (d ∷ ds) f =
    ap₂ (λ (x : ℕ) (xs : List ℕ). x ∷ xs)
    (ap (λ (n : ℕ). n % 2 ^ w) (high d (total ws) (pack_lt ws ds f.1)) ∙ mod-eq_of_lt f.0)
    (unpack_above ws d (pack ws ds) ∙ unpack_pack ws ds f.1)

-- packing a number's fields gives the number, within the layout's bits
pub pack_unpack : (ws : List ℕ) (n : ℕ) → pack ws (unpack ws n) ≡ n % 2 ^ total ws
pack_unpack [] n = omega arith
pack_unpack (w ∷ ws) n = ap (λ (x : ℕ). n / 2 ^ total ws % 2 ^ w * 2 ^ total ws + x) (pack_unpack ws n) ∙ sym (mod-pow-add n w (total ws))

-- the fields of a number fit
pub unpack_fit : (ws : List ℕ) (n : ℕ) → Fit ws (unpack ws n)
unpack_fit [] n = tt
unpack_fit (w ∷ ws) n = (mod-lt (n / 2 ^ total ws) (pow_pos w), unpack_fit ws n)

-- two layouts, one after the other
pub total_append : (us ws : List ℕ) → total (us ++ ws) ≡ total us + total ws
total_append [] ws = omega arith
total_append (u ∷ us) ws = omega (arith, total_append us ws)

pub pack_append : (us ws xs ys : List ℕ) → length us ≡ length xs → pack (us ++ ws) (xs ++ ys) ≡ pack us xs * 2 ^ total ws + pack ws ys
pack_append [] ws [] ys e = omega arith
pack_append [] ws (x ∷ xs) ys e = let z : ⊥ = omega arith in absurd z
pack_append (u ∷ us) ws [] ys e = let z : ⊥ = omega arith in absurd z
pack_append (u ∷ us) ws (x ∷ xs) ys e =
    ap₂ (λ (a b : ℕ). x * a + b)
    (ap (λ (k : ℕ). 2 ^ k) (total_append us ws) ∙ pow-add 2 (total us) (total ws))
    (pack_append us ws xs ys (omega arith))
    ∙ ap (λ (a : ℕ). a + (pack us xs * 2 ^ total ws + pack ws ys)) (sym (mul_assoc x (2 ^ total us) (2 ^ total ws)))
    ∙ sym (add_assoc (x * 2 ^ total us * 2 ^ total ws) (pack us xs * 2 ^ total ws) (pack ws ys))
    ∙ ap (λ (a : ℕ). a + pack ws ys) (sym (add-mul (x * 2 ^ total us) (pack us xs) (2 ^ total ws)))
