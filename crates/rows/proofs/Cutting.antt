-- Cutting and packing a field at a time, over any list of widths: each turn of a loop does one field, and what is left is the same of the widths behind it.
-- Assumes nothing.
use Rattle.std.specs.Prelude.{Result, Ok, Err}
use Prim.Native.Nat.{ℕ, zero, suc, ◌+◌, ◌-◌, ◌*◌, ◌/◌, ◌%◌, ◌^◌, ◌<◌, ◌≤◌}
use mathlib.Core.Path.{◌≡◌, refl, sym, ap, ap₂, subst, ◌∙◌}
use mathlib.Core.Bool.{Bool, true, false, cond}
use mathlib.Core.List.{List, [], ◌∷◌}
use native.Mathlib.Nat.{not-suc-le-zero, le_of_suc-le-suc, lt_of_lt_of_le, mod-eq_of_lt, mul_assoc, add-mul, add_assoc}
use native.Mathlib.Numerals.{add-one}
use native.Mathlib.Omega.{arith}
use lib.Arith.{digits_lt}
use lib.Dec.{ltb}
use borrow.Author.Tests.{leb-true, leb-false, lt-ltb, le-ltb}
use lib.Pow.{pow-lt, pow_mono, pow-add}
use lib.ListN.{length, take, drop, get_or, set}
use lib.Seq.{drop-cons, drop-length, take-length}
use Rattle.refusals.specs.declared.Refusal.TheVariants.{Field}
use Rattle.fields.specs.Packing.{wider, total, pack, unpack, fits_and, fits}
use Rattle.entries.specs.Arrays.{filled}
use Rattle.rows.specs.Same.{entries}
use Rattle.rows.specs.From.{packed_by}
use Rattle.refusals.specs.declared.Refusal.{Refusal}

-- 1 moved up by fewer than 64 bits does not wrap
pub one_up : (k : ℕ) → k < 64 → 1 * 2 ^ k % 2 ^ 64 ≡ 2 ^ k
one_up k h = let e : 1 * 2 ^ k ≡ 2 ^ k = omega arith in rw e (mod-eq_of_lt (pow-lt h))

pub chosen : {A : Type 0} (t : Bool) (x y : A) → t ≡ true → cond t x y ≡ x
chosen t x y e = rw e

-- ---- cutting

pub total_at : (ws : List ℕ) (i : ℕ) → i < length ws → total (drop i ws) ≡ get_or ws i 0 + total (drop (suc i) ws)
total_at ws i h = ap total (drop-cons ws i 0 h)

pub length_unpack : (ws : List ℕ) (n : ℕ) → length (unpack ws n) ≡ length ws
length_unpack [] n = refl
length_unpack (w ∷ ws) n = ap suc (length_unpack ws n)

pub unpack_at : (ws : List ℕ) (n i : ℕ) → i < length ws → get_or (unpack ws n) i 0 ≡ n / 2 ^ total (drop (suc i) ws) % 2 ^ get_or ws i 0
unpack_at [] n i h = absurd (not-suc-le-zero h)
unpack_at (w ∷ ws) n zero h = refl
unpack_at (w ∷ ws) n (suc i) h = unpack_at ws n i (le_of_suc-le-suc h)

-- one value more in an array
pub filled_more : (n : ℕ) (xs : List ℕ) (i : ℕ) → i < length xs → i < n → set (filled n (take i xs)) i (get_or xs i 0) ≡ filled n (take (suc i) xs)
filled_more zero xs i h k = absurd (not-suc-le-zero k)
filled_more (suc n) [] i h k = absurd (not-suc-le-zero h)
filled_more (suc n) (x ∷ xs) zero h k = refl
filled_more (suc n) (x ∷ xs) (suc i) h k = ap (λ (l : List ℕ). x ∷ l) (filled_more n xs i (le_of_suc-le-suc h) (le_of_suc-le-suc k))

-- one turn of the loop: the field i, and the bits below it
module _ (ws : List ℕ) (n i below w v : ℕ) (out : List ℕ) (h : i < length ws) (p : w ≡ get_or ws i 0) (q : below ≡ total (drop i ws)) where
  below_is : below - w ≡ total (drop (suc i) ws)
  below_is = omega (arith, total_at ws i h)

  pub width_below : w ≤ below
  width_below = omega (arith, total_at ws i h)

  pub below_next : below - w ≡ total (drop (i + 1) ws)
  below_next = below_is ∙ ap (λ (m : ℕ). total (drop m ws)) (sym (add-one i))

  pub cut_next : i < 15 → v ≡ n / 2 ^ (below - w) % 2 ^ w → out ≡ filled 15 (take i (unpack ws n)) → set out i v ≡ filled 15 (take (i + 1) (unpack ws n))
  cut_next k e f =
      ap₂ (λ (l : List ℕ) (x : ℕ). set l i x) f (e ∙ ap₂ (λ (a b : ℕ). n / 2 ^ a % 2 ^ b) below_is p ∙ sym (unpack_at ws n i h))
      ∙ filled_more 15 (unpack ws n) i (omega (arith, length_unpack ws n)) k
      ∙ ap (λ (m : ℕ). filled 15 (take m (unpack ws n))) (sym (add-one i))

pub cut_whole : (ws : List ℕ) (n i : ℕ) (out : List ℕ) → i ≡ length ws → out ≡ filled 15 (take i (unpack ws n)) → out ≡ filled 15 (unpack ws n)
cut_whole ws n i out h e =
    e ∙ ap (filled 15) (ap (λ (m : ℕ). take m (unpack ws n)) (h ∙ sym (length_unpack ws n)) ∙ take-length (unpack ws n))

-- ---- arrays written out

pub length_filled : (n : ℕ) (values : List ℕ) → length (filled n values) ≡ n
length_filled zero values = refl
length_filled (suc n) [] = ap suc (length_filled n [])
length_filled (suc n) (x ∷ values) = ap suc (length_filled n values)

pub filled_all : (l : List ℕ) → filled (length l) l ≡ l
filled_all [] = refl
filled_all (x ∷ l) = ap (λ (r : List ℕ). x ∷ r) (filled_all l)

-- all entries of a list, one after the other
entries_drop : (k from : ℕ) (l : List ℕ) → from + k ≡ length l → entries from k l ≡ drop from l
entries_drop zero from l e = let q : from ≡ length l = omega arith in sym (ap (λ (n : ℕ). drop n l) q ∙ drop-length l)
entries_drop (suc k) from l e =
    ap (λ (r : List ℕ). get_or l from 0 ∷ r) (entries_drop k (suc from) l (omega arith)) ∙ sym (drop-cons l from 0 (omega arith))

pub entries_all : (k : ℕ) (l : List ℕ) → length l ≡ k → entries 0 k l ≡ l
entries_all k l e = entries_drop k 0 l (omega arith)

-- ---- packing

never : (ws ds : List ℕ) → fits_and false ws ds ≡ false
never [] [] = refl
never [] (d ∷ ds) = refl
never (w ∷ ws) [] = refl
never (w ∷ ws) (d ∷ ds) = never ws ds

module _ (l : List ℕ) where
  -- what is left to pack behind the bits a, from an entry on
  abbrev pub left : ℕ → ℕ → List ℕ → Result ℕ Refusal
  left a from ws = cond (fits ws (entries from (length ws) l)) (Ok (a * 2 ^ total ws + pack ws (entries from (length ws) l))) (Err Field)

  pub left_first : (ws : List ℕ) → packed_by ws l ≡ left 0 5 ws
  unfolding packed_by
  left_first ws = ap (λ (n : ℕ). cond (fits ws (entries 5 (length ws) l)) (Ok n) (Err Field)) (omega arith)

  pub left_last : (a from : ℕ) → left a from [] ≡ Ok a
  left_last a from = ap Ok (omega arith)

  shifted : (a d w t p : ℕ) → a * 2 ^ (w + t) + (d * 2 ^ t + p) ≡ (a * 2 ^ w + d) * 2 ^ t + p
  shifted a d w t p =
      ap (λ (x : ℕ). a * x + (d * 2 ^ t + p)) (pow-add 2 w t)
      ∙ ap (λ (x : ℕ). x + (d * 2 ^ t + p)) (sym (mul_assoc a (2 ^ w) (2 ^ t)))
      ∙ sym (add_assoc (a * 2 ^ w * 2 ^ t) (d * 2 ^ t) p)
      ∙ ap (λ (x : ℕ). x + p) (sym (add-mul (a * 2 ^ w) d (2 ^ t)))

  pub left_next : (a from w : ℕ) (ws : List ℕ) → ltb (get_or l from 0) (2 ^ w) ≡ true → left a from (w ∷ ws) ≡ left (a * 2 ^ w + get_or l from 0) (suc from) ws
  left_next a from w ws e =
      let ds : List ℕ = entries (suc from) (length ws) l in
      ap (λ (b : Bool). cond (fits_and b ws ds) (Ok (a * 2 ^ total (w ∷ ws) + pack (w ∷ ws) (get_or l from 0 ∷ ds))) (Err Field)) e
      ∙ ap (λ (n : ℕ). cond (fits ws ds) (Ok n) (Err Field)) (shifted a (get_or l from 0) w (total ws) (pack ws ds))

  pub left_wide : (a from w : ℕ) (ws : List ℕ) → ltb (get_or l from 0) (2 ^ w) ≡ false → left a from (w ∷ ws) ≡ Err Field
  left_wide a from w ws e =
      let ds : List ℕ = entries (suc from) (length ws) l in
      ap (λ (b : Bool). cond (fits_and b ws ds) (Ok (a * 2 ^ total (w ∷ ws) + pack (w ∷ ws) (get_or l from 0 ∷ ds))) (Err Field)) e
      ∙ ap (λ (b : Bool). cond b (Ok (a * 2 ^ total (w ∷ ws) + pack (w ∷ ws) (get_or l from 0 ∷ ds))) (Err Field)) (never ws ds)

-- a field that fits behind bits that fit
pub behind_lt : (a u w d : ℕ) → a < 2 ^ u → d < 2 ^ w → a * 2 ^ w + d < 2 ^ (u + w)
behind_lt a u w d h k = subst (λ (n : ℕ). a * 2 ^ w + d < n) (sym (pow-add 2 u w)) (digits_lt h k)

-- one turn of the loop: the width of the field i, and its code
pub small : (ws : List ℕ) (i w : ℕ) → i < length ws → w ≡ get_or ws i 0 → total (drop i ws) ≤ 56 → w < 64
small ws i w h p t = omega (arith, total_at ws i h)

module _ (ws l : List ℕ) (i a w d : ℕ) (h : i < length ws) (p : w ≡ get_or ws i 0) (q : d ≡ get_or l (5 + i) 0) (t : total (drop i ws) ≤ 56) where
  next_total : total (drop i ws) ≡ w + total (drop (i + 1) ws)
  next_total = total_at ws i h ∙ ap₂ (λ (x m : ℕ). x + total (drop m ws)) (sym p) (sym (add-one i))

  drops : drop i ws ≡ w ∷ drop (i + 1) ws
  drops = drop-cons ws i 0 h ∙ ap₂ (λ (x m : ℕ). x ∷ drop m ws) (sym p) (sym (add-one i))

  pub total_next : total (drop (i + 1) ws) ≤ 56
  total_next = omega (arith, next_total)

  pub refuses : wider w d ≡ true → packed_by ws l ≡ left l a (5 + i) (drop i ws) → Err Field ≡ packed_by ws l
  refuses f e =
      let wide : 2 ^ w ≤ get_or l (5 + i) 0 = subst (λ (x : ℕ). 2 ^ w ≤ x) q (leb-true (2 ^ w) d f) in
      sym (e ∙ ap (left l a (5 + i)) drops ∙ left_wide l a (5 + i) w (drop (i + 1) ws) (le-ltb (get_or l (5 + i) 0) (2 ^ w) wide))

  module _ (f : wider w d ≡ false) (b : a < 2 ^ (56 - total (drop i ws))) where
    pub me_next : a * 2 ^ w + d < 2 ^ (56 - total (drop (i + 1) ws))
    me_next =
        let e : 56 - total (drop i ws) + w ≡ 56 - total (drop (i + 1) ws) = omega (arith, next_total) in
        subst (λ (n : ℕ). a * 2 ^ w + d < 2 ^ n) e (behind_lt a (56 - total (drop i ws)) w d b (leb-false (2 ^ w) d f))

    pub me_fits : a * 2 ^ w + d < 2 ^ 64
    me_fits = let k : 56 - total (drop (i + 1) ws) ≤ 64 = omega arith in lt_of_lt_of_le me_next (pow_mono k)

    pub left_more : packed_by ws l ≡ left l a (5 + i) (drop i ws) → packed_by ws l ≡ left l (a * 2 ^ w + d) (5 + (i + 1)) (drop (i + 1) ws)
    left_more e =
        let fit : get_or l (5 + i) 0 < 2 ^ w = subst (λ (x : ℕ). x < 2 ^ w) q (leb-false (2 ^ w) d f) in
        let n : suc (5 + i) ≡ 5 + (i + 1) = omega arith in
        e ∙ ap (left l a (5 + i)) drops ∙ left_next l a (5 + i) w (drop (i + 1) ws) (lt-ltb (get_or l (5 + i) 0) (2 ^ w) fit)
        ∙ ap₂ (λ (x m : ℕ). left l (a * 2 ^ w + x) m (drop (i + 1) ws)) (sym q) n

pub left_none : (ws l : List ℕ) (i a : ℕ) → i ≡ length ws → packed_by ws l ≡ left l a (5 + i) (drop i ws) → Ok a ≡ packed_by ws l
left_none ws l i a h e = sym (e ∙ ap (left l a (5 + i)) (ap (λ (m : ℕ). drop m ws) h ∙ drop-length ws) ∙ left_last l a (5 + i))
