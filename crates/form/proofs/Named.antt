-- A line names its figures: of two rows of one key with the same text the latitudes and the longitudes are equal, and every word that the form takes as a figure is one's. Digits are read back as the number that they
-- say, and the words of a line are what stands between its spaces.
-- Assumes nothing.
use Rattle.std.specs.Prelude.{Option, Some, None}
use Prim.Native.Nat.{ℕ, zero, suc, ◌+◌, ◌-◌, ◌*◌, ◌/◌, ◌%◌, ◌^◌, ◌<◌, ◌≤◌}
use native.Mathlib.Omega.{arith}
use mathlib.Core.Path.{◌≡◌, refl, sym, ap, ap₂, subst, ◌∙◌}
use mathlib.Core.Logic.{◌⊎◌, inl, inr}
use mathlib.Core.Bool.{Bool, true, false, cond, not, ◌&&◌, ◌||◌, false≢true}
use mathlib.Core.List.{List, [], ◌∷◌, ◌++◌, append-nil, append_assoc}
use borrow.Author.Tests.{lt-ltb, ltb-false, le-ltb, leb-true, eqb-true, eqb-false, not-true}
use lib.Dec.{ltb, leb, eqb}
use lib.ListN.{length}
use lib.IntN.{ℤ, pos, negsuc, nat_abs}
use Rattle.fields.proofs.Bools.{each, either, and_left, and_right}
use Rattle.text.specs.Numbers.{decimal_in, decimal, minus, signed}
use Rattle.text.proofs.Digits.{decimal_small}
use Rattle.text.specs.Lines.{row_text}
use Rattle.text.specs.declared.Row.{Row}
use Rattle.form.specs.Form.{pieces, same, is_digit, all, is_positive, is_negative, is_figure}
use Rattle.form.specs.Own.{Sized, word}
use Rattle.form.proofs.Loops.{same_equal}
use Rattle.form.proofs.Pieces.{pieces_cut}
use Rattle.form.proofs.Own.{pow_ten, decimal_digits, decimal_positive}
use Rattle.form.proofs.OwnLines.{key_words, column_words, row_line, row_cut, row_over, row_pieces}

-- ---- numbers

-- the number that digits say, behind others
unfoldable value_from : ℕ → List ℕ → ℕ
value_from n [] = n
value_from n (b ∷ w) = value_from (10 * n + (b - 48)) w

value_append : (n : ℕ) (v w : List ℕ) → value_from n (v ++ w) ≡ value_from (value_from n v) w
unfolding value_from
value_append n [] w = refl
value_append n (b ∷ v) w = value_append (10 * n + (b - 48)) v w

value_of : (k n : ℕ) → n < 10 ^ k → value_from 0 (decimal_in k n) ≡ n
unfolding decimal_in value_from
value_of zero n h = omega arith
value_of (suc k) n h = by (ltb n 10) refl (λ g. value_of k (n / 10) (omega (arith, pow_ten k)))
  where
    by : (t : Bool) → ltb n 10 ≡ t → (10 ≤ n → value_from 0 (decimal_in k (n / 10)) ≡ n / 10) → value_from 0 (cond t ((48 + n) ∷ []) (decimal_in k (n / 10) ++ ((48 + n % 10) ∷ []))) ≡ n
    by true e rest = omega arith
    by false e rest =
        let f : value_from 0 (decimal_in k (n / 10)) ≡ n / 10 = rest (ltb-false n 10 e) in
        value_append 0 (decimal_in k (n / 10)) ((48 + n % 10) ∷ []) ∙ ap (λ (m : ℕ). 10 * m + (48 + n % 10 - 48)) f ∙ (let g : 10 * (n / 10) + (48 + n % 10 - 48) ≡ n = omega arith in g)

decimal_one : (m n : ℕ) → m < 10 ^ 20 → n < 10 ^ 20 → decimal m ≡ decimal n → m ≡ n
unfolding decimal
decimal_one m n p q e = sym (value_of 20 m (omega arith)) ∙ ap (value_from 0) e ∙ value_of 20 n (omega arith)

-- digits have no minus
no_minus : (n : ℕ) (w : List ℕ) → decimal n ≡ 45 ∷ w → ⊥
unfolding decimal all
no_minus n w e = false≢true (sym (ap (all is_digit) e) ∙ decimal_digits 20 n)

some_digit : (n : ℕ) → suc n < 10 ^ 20 → [] ≡ decimal (suc n) → ⊥
unfolding is_positive
some_digit n h e = false≢true (ap is_positive e ∙ decimal_positive (suc n) (omega arith) h)

from_zero : (n : ℕ) → signed (pos n) ≡ decimal n
unfolding signed
from_zero n = ap (λ (t : Bool). cond t (minus ++ decimal n) (decimal n)) (le-ltb n 0 (omega arith))

below_zero : (n : ℕ) → signed (negsuc n) ≡ 45 ∷ decimal (suc n)
unfolding signed
below_zero n = refl

rest_of : {v w : List ℕ} → ◌≡◌ {A = List ℕ} (45 ∷ v) (45 ∷ w) → v ≡ w
rest_of e = cc

signed_one : (x y : ℤ) → nat_abs x < 10 ^ 20 → nat_abs y < 10 ^ 20 → signed x ≡ signed y → x ≡ y
signed_one (pos m) (pos n) p q e = ap pos (decimal_one m n p q (sym (from_zero m) ∙ e ∙ from_zero n))
signed_one (pos m) (negsuc n) p q e = absurd (no_minus m (decimal (suc n)) (sym (from_zero m) ∙ e ∙ below_zero n))
signed_one (negsuc m) (pos n) p q e = absurd (no_minus n (decimal (suc m)) (sym (from_zero n) ∙ sym e ∙ below_zero m))
signed_one (negsuc m) (negsuc n) p q e =
    let f : suc m ≡ suc n = decimal_one (suc m) (suc n) p q (rest_of (sym (below_zero m) ∙ e ∙ below_zero n)) in
    ap negsuc (let g : m ≡ n = omega arith in g)

dash_known : (z : ℤ) → nat_abs z < 10 ^ 20 → minus ≡ signed z → ⊥
dash_known (pos n) h e = no_minus n [] (sym (from_zero n) ∙ sym e)
dash_known (negsuc n) h e = some_digit n h (rest_of (e ∙ below_zero n))

word_one : (f g : Option ℤ) → Sized f → Sized g → word f ≡ word g → f ≡ g
word_one None None p q e = refl
word_one None (Some z) p q e = absurd (dash_known z q e)
word_one (Some z) None p q e = absurd (dash_known z p (sym e))
word_one (Some y) (Some z) p q e = ap Some (signed_one y z p q e)

-- ---- lines

line_one : (r s : Row) → row_text r ≡ row_text s → row_line r ≡ row_line s
line_one r s e =
    let p : row_line r ∷ pieces 10 [] ≡ row_line s ∷ pieces 10 [] =
    sym (pieces_cut 10 (row_line r) [] (row_over r)) ∙ ap (pieces 10) (sym (row_cut r []) ∙ ap (λ (l : List ℕ). l ++ []) e ∙ row_cut s []) ∙ pieces_cut 10 (row_line s) [] (row_over s) in
    cc

behind : (a b c : List (List ℕ)) → a ++ b ≡ a ++ c → b ≡ c
behind [] b c e = e
behind (x ∷ a) b c e = behind a b c (let f : a ++ b ≡ a ++ c = cc in f)

-- the row of a text, but for what its columns share
pub figures_one : (r s : Row) → r.key ≡ s.key → Sized r.latitude → Sized s.latitude → Sized r.longitude → Sized s.longitude → row_text r ≡ row_text s
    → (r.latitude ≡ s.latitude) × (r.longitude ≡ s.longitude)
figures_one r s k y y' x x' e =
    let w = sym (row_pieces r) ∙ ap (pieces 32) (line_one r s e) ∙ row_pieces s in
    let c : column_words r ≡ column_words s = behind (key_words s.key) (column_words r) (column_words s) (rw k at (tail w)) in
    (word_one r.latitude s.latitude y y' (let f : word r.latitude ≡ word s.latitude = cc in f), word_one r.longitude s.longitude x x' (let f : word r.longitude ≡ word s.longitude = cc in f))
  where
    tail : {v w : List ℕ} {vs ws : List (List ℕ)} → v ∷ vs ≡ w ∷ ws → vs ≡ ws
    tail e = cc

-- ---- every figure of the form is the word of a figure of at most 20 digits

pow_one : (k : ℕ) → 1 ≤ 10 ^ k
pow_one zero = omega arith
pow_one (suc k) = omega (arith, pow_ten k, pow_one k)

digit_in : (b : ℕ) → is_digit b ≡ true → (48 ≤ b) × (b ≤ 57)
digit_in b d = (leb-true 48 b (and_left (leb 48 b) (leb b 57) d), leb-true b 57 (and_right (leb 48 b) (leb b 57) d))

value_least : (w : List ℕ) (n : ℕ) → 1 ≤ n → 1 ≤ value_from n w
unfolding value_from
value_least [] n l = l
value_least (b ∷ w) n l = value_least w (10 * n + (b - 48)) (omega arith)

value_most : (w : List ℕ) (k n : ℕ) → n < 10 ^ k → all is_digit w ≡ true → value_from n w < 10 ^ (k + length w)
unfolding value_from all
value_most [] k n l d = subst (λ (j : ℕ). n < 10 ^ j) (let e : k ≡ k + 0 = omega arith in e) l
value_most (b ∷ w) k n l d =
    let b∈ = digit_in b (and_left (is_digit b) (all is_digit w) d) in
    subst (λ (j : ℕ). value_from (10 * n + (b - 48)) w < 10 ^ j) (let e : suc k + length w ≡ k + suc (length w) = omega arith in e)
    (value_most w (suc k) (10 * n + (b - 48)) (omega (arith, pow_ten k, b∈.1)) (and_right (is_digit b) (all is_digit w) d))

-- a digit behind a number that is not 0
digit_behind : (k n b : ℕ) → 1 ≤ n → (48 ≤ b) × (b ≤ 57) → decimal_in (suc k) (10 * n + (b - 48)) ≡ decimal_in k n ++ (b ∷ [])
unfolding decimal_in
digit_behind k n b l d =
    let m = 10 * n + (b - 48) in
    ap (λ (t : Bool). cond t ((48 + m) ∷ []) (decimal_in k (m / 10) ++ ((48 + m % 10) ∷ []))) (le-ltb m 10 (omega arith))
    ∙ ap₂ (λ (x y : ℕ). decimal_in k x ++ (y ∷ [])) (let e : m / 10 ≡ n = omega (arith, d.0, d.1) in e) (let e : 48 + m % 10 ≡ b = omega (arith, d.0, d.1) in e)

digits_behind : (w : List ℕ) (k n : ℕ) → 1 ≤ n → all is_digit w ≡ true → decimal_in (k + length w) (value_from n w) ≡ decimal_in k n ++ w
unfolding value_from all
digits_behind [] k n l d = ap (λ (j : ℕ). decimal_in j n) (let e : k + 0 ≡ k = omega arith in e) ∙ sym (append-nil (decimal_in k n))
digits_behind (b ∷ w) k n l d =
    let b∈ = digit_in b (and_left (is_digit b) (all is_digit w) d) in
    ap (λ (j : ℕ). decimal_in j (value_from (10 * n + (b - 48)) w)) (let e : k + suc (length w) ≡ suc k + length w = omega arith in e)
    ∙ digits_behind w (suc k) (10 * n + (b - 48)) (omega arith) (and_right (is_digit b) (all is_digit w) d)
    ∙ ap (λ (v : List ℕ). v ++ w) (digit_behind k n b l b∈)
    ∙ append_assoc (decimal_in k n) (b ∷ []) w

first_digit : (k b : ℕ) → (48 ≤ b) × (b ≤ 57) → decimal_in (suc k) (b - 48) ≡ b ∷ []
unfolding decimal_in
first_digit k b d =
    ap (λ (t : Bool). cond t ((48 + (b - 48)) ∷ []) (decimal_in k ((b - 48) / 10) ++ ((48 + (b - 48) % 10) ∷ []))) (lt-ltb (b - 48) 10 (omega (arith, d.0, d.1)))
    ∙ ap (λ (x : ℕ). x ∷ []) (let e : 48 + (b - 48) ≡ b = omega (arith, d.0, d.1) in e)

abbrev Digits : List ℕ → Type 0
Digits w = (n : ℕ) × (1 ≤ n) × (n < 10 ^ 20) × (decimal n ≡ w)

digits_of : (b : ℕ) (w : List ℕ) → suc (length w) ≤ 20 → all is_digit (b ∷ w) ≡ true → not (eqb b 48) ≡ true → Digits (b ∷ w)
unfolding decimal all
digits_of b w l d z =
    let b∈ = digit_in b (and_left (is_digit b) (all is_digit w) d) in
    let ds = and_right (is_digit b) (all is_digit w) d in
    let b≠ : 49 ≤ b = omega (arith, b∈.0, eqb-false b 48 (not-true (eqb b 48) z)) in
    let k = 19 - length w in
    let e : suc k + length w ≡ 20 = omega (arith, l) in (
      value_from (b - 48) w,
      value_least w (b - 48) (omega (arith, b≠)),
      subst (λ (j : ℕ). value_from (b - 48) w < 10 ^ j) e (value_most w (suc k) (b - 48) (omega (arith, pow_ten k, pow_one k, b∈.1)) ds),
      ap (λ (j : ℕ). decimal_in j (value_from (b - 48) w)) (sym e) ∙ digits_behind w (suc k) (b - 48) (omega (arith, b≠)) ds ∙ ap (λ (v : List ℕ). v ++ w) (first_digit k b b∈),
    )

positive_digits : (w : List ℕ) → is_positive w ≡ true → Digits w
unfolding is_positive
positive_digits [] p = absurd (false≢true p)
positive_digits (b ∷ w) p =
    let q = each (leb 1 (suc (length w)) && leb (suc (length w)) 20 && all is_digit (b ∷ w)) (not (eqb b 48)) p in
    let r = each (leb 1 (suc (length w)) && leb (suc (length w)) 20) (all is_digit (b ∷ w)) q.0 in
    digits_of b w (leb-true (suc (length w)) 20 (and_right (leb 1 (suc (length w))) (leb (suc (length w)) 20) r.0)) r.1 q.1

abbrev Named : List ℕ → Type 0
Named w = (f : Option ℤ) × Sized f × (word f ≡ w)

below : (v : List ℕ) (n : ℕ) → 1 ≤ n → n < 10 ^ 20 → decimal n ≡ v → Named (45 ∷ v)
below v zero l h e = absurd (let z : ⊥ = omega arith in z)
below v (suc n) l h e = (Some (negsuc n), h, below_zero n ∙ ap (λ (x : List ℕ). 45 ∷ x) e)

negative_named : (w : List ℕ) → is_negative w ≡ true → Named w
unfolding is_negative
negative_named [] p = absurd (false≢true p)
negative_named (b ∷ w) p =
    let q = each (eqb b 45) (is_positive w) p in
    let d = positive_digits w q.1 in
    subst (λ (x : ℕ). Named (x ∷ w)) (sym (eqb-true b 45 q.0)) (below w d.0 d.1 d.2 d.3)

-- so `figures_one` speaks of all lines in the form
pub figure_named : (w : List ℕ) → is_figure w ≡ true → Named w
unfolding is_figure
figure_named w p = by (either (same w (45 ∷ []) || same w (48 ∷ []) || is_positive w) (is_negative w) p)
  where
    zero_word : word (Some (pos 0)) ≡ 48 ∷ []
    zero_word = from_zero 0 ∙ decimal_small 0 (omega arith)

    word_by : (same w (45 ∷ []) ≡ true) ⊎ (same w (48 ∷ []) ≡ true) → Named w
    word_by (inl q) = (None, tt, sym (same_equal w (45 ∷ []) q))
    word_by (inr q) = (Some (pos 0), omega arith, zero_word ∙ sym (same_equal w (48 ∷ []) q))

    above : Digits w → Named w
    above d = (Some (pos d.0), d.2, from_zero d.0 ∙ d.3)

    by_digits : (same w (45 ∷ []) || same w (48 ∷ []) ≡ true) ⊎ (is_positive w ≡ true) → Named w
    by_digits (inl q) = word_by (either (same w (45 ∷ [])) (same w (48 ∷ [])) q)
    by_digits (inr q) = above (positive_digits w q)

    by : (same w (45 ∷ []) || same w (48 ∷ []) || is_positive w ≡ true) ⊎ (is_negative w ≡ true) → Named w
    by (inl q) = by_digits (either (same w (45 ∷ []) || same w (48 ∷ [])) (is_positive w) q)
    by (inr q) = negative_named w q
