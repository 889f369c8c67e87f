-- Our own texts are in the form.
-- Assumes nothing.
use Prim.Native.Nat.{ℕ, zero, suc, ◌+◌, ◌*◌, ◌/◌, ◌%◌, ◌^◌, ◌<◌, ◌≤◌}
use mathlib.Core.Path.{◌≡◌, refl, sym, ap, ◌∙◌}
use mathlib.Core.Bool.{Bool, true, false, cond, not, ◌&&◌, ◌||◌}
use mathlib.Core.List.{List, [], ◌∷◌, ◌++◌}
use native.Mathlib.Omega.{arith}
use borrow.Author.Tests.{lt-ltb, le-ltb, ltb-true, ltb-false, le-leb, leb-true, ne_eqb, eq-eqb}
use lib.Dec.{ltb, leb}
use lib.Pow.{pow-add}
use lib.ListN.{length, get_or, length-append, get_or-append}
use Rattle.fields.proofs.Bools.{both, and_left, and_right}
use Rattle.text.specs.Numbers.{decimal_in, decimal, hex, hex_digit, minus, signed}
use Rattle.text.proofs.Digits.{decimal_small, decimal_most}
use lib.IntN.{ℤ, pos, negsuc, nat_abs}
use lib.Signed.{lt_z}
use mathlib.Core.Bool.{or-true}
use Rattle.text.proofs.Digits.{hex_length}
use Rattle.form.specs.Form.{same, is_digit, is_hex_digit, all, is_positive, is_negative, is_figure, is_address}
use Rattle.form.proofs.Pieces.{over}

all_append : (test : ℕ → Bool) (v w : List ℕ) → all test v ≡ true → all test w ≡ true → all test (v ++ w) ≡ true
unfolding all
all_append test [] w p q = q
all_append test (b ∷ v) w p q = both (and_left (test b) (all test v) p) (all_append test v w (and_right (test b) (all test v) p) q)

-- what passes a test that only bytes above a number pass
all_over_lem : (test : ℕ → Bool) (m : ℕ) → ((b : ℕ) → test b ≡ true → m < b) → (w : List ℕ) → all test w ≡ true → over m w ≡ true
unfolding all over
all_over_lem test m h [] p = refl
all_over_lem test m h (b ∷ w) p = both (lt-ltb m b (h b (and_left (test b) (all test w) p))) (all_over_lem test m h w (and_right (test b) (all test w) p))

one_digit_lem : (d : ℕ) → d < 10 → all is_digit ((48 + d) ∷ []) ≡ true
unfolding all
one_digit_lem d h = both (both (le-leb 48 (48 + d) (omega arith)) (le-leb (48 + d) 57 (omega arith))) refl

-- a number as text is digits
digits_by : (k n : ℕ) (t : Bool) → ltb n 10 ≡ t → all is_digit (decimal_in k (n / 10)) ≡ true → all is_digit (cond t ((48 + n) ∷ []) (decimal_in k (n / 10) ++ ((48 + n % 10) ∷ []))) ≡ true
digits_by k n true e h = one_digit_lem n (ltb-true n 10 e)
digits_by k n false e h = all_append is_digit (decimal_in k (n / 10)) ((48 + n % 10) ∷ []) h (one_digit_lem (n % 10) (omega arith))

pub decimal_digits : (k n : ℕ) → all is_digit (decimal_in k n) ≡ true
unfolding decimal_in all
decimal_digits zero n = refl
decimal_digits (suc k) n = digits_by k n (ltb n 10) refl (decimal_digits k (n / 10))

-- .. the first not 0, where the number is not 0 and has room
abbrev Leads : List ℕ → Type 0
Leads w = (1 ≤ length w) × (49 ≤ get_or w 0 0)

pub pow_ten : (k : ℕ) → 10 ^ suc k ≡ 10 * 10 ^ k
pow_ten k = ap (λ (j : ℕ). 10 ^ j) (let e : suc k ≡ 1 + k = omega arith in e) ∙ pow-add 10 1 k

leads_append : (v w : List ℕ) → Leads v → Leads (v ++ w)
leads_append v w p = (omega (arith, length-append v w, p.0), omega (arith, get_or-append v w 0 0 p.0, p.1))

leads_by : (k n : ℕ) (t : Bool) → ltb n 10 ≡ t → 1 ≤ n → (10 ≤ n → Leads (decimal_in k (n / 10))) → Leads (cond t ((48 + n) ∷ []) (decimal_in k (n / 10) ++ ((48 + n % 10) ∷ [])))
leads_by k n true e l h = (omega arith, omega arith)
leads_by k n false e l h = leads_append (decimal_in k (n / 10)) ((48 + n % 10) ∷ []) (h (ltb-false n 10 e))

decimal_leads : (k n : ℕ) → 1 ≤ n → n < 10 ^ k → Leads (decimal_in k n)
unfolding decimal_in
decimal_leads zero n l h = absurd (let z : ⊥ = omega arith in z)
decimal_leads (suc k) n l h = leads_by k n (ltb n 10) refl l (λ g. decimal_leads k (n / 10) (omega arith) (omega (arith, pow_ten k)))

positive : (w : List ℕ) → Leads w → length w ≤ 20 → all is_digit w ≡ true → is_positive w ≡ true
unfolding is_positive
positive w l m d = both (both (both (le-leb 1 (length w) l.0) (le-leb (length w) 20 m)) d) (ap not (ne_eqb (get_or w 0 0) 48 (λ e. omega (arith, l.1))))

pub decimal_positive : (n : ℕ) → 1 ≤ n → n < 10 ^ 20 → is_positive (decimal n) ≡ true
unfolding decimal
decimal_positive n l h = positive (decimal_in 20 n) (decimal_leads 20 n l (omega arith)) (decimal_most n) (decimal_digits 20 n)

-- ---- figures

pub either_right : (a b : Bool) → b ≡ true → a || b ≡ true
either_right a b p = ap (λ (t : Bool). a || t) p ∙ or-true a

pub either_left : (a b : Bool) → a ≡ true → a || b ≡ true
either_left a b p = ap (λ (t : Bool). t || b) p

zero_figure : is_figure (48 ∷ []) ≡ true
unfolding is_figure same
zero_figure = refl

pub dash_figure : is_figure (45 ∷ []) ≡ true
unfolding is_figure same
dash_figure = refl

positive_figure : (w : List ℕ) → is_positive w ≡ true → is_figure w ≡ true
unfolding is_figure
positive_figure w p =
    either_left (same w (45 ∷ []) || same w (48 ∷ []) || is_positive w) (is_negative w)
    (either_right (same w (45 ∷ []) || same w (48 ∷ [])) (is_positive w) p)

minus_figure : (w : List ℕ) → is_positive w ≡ true → is_figure (45 ∷ w) ≡ true
unfolding is_figure is_negative
minus_figure w p =
    either_right (same (45 ∷ w) (45 ∷ []) || same (45 ∷ w) (48 ∷ []) || is_positive (45 ∷ w)) (is_positive w) p

decimal_by : (n : ℕ) → n < 10 ^ 20 → (t : Bool) → ltb 0 n ≡ t → is_figure (decimal n) ≡ true
decimal_by n h true e = positive_figure (decimal n) (decimal_positive n (ltb-true 0 n e) h)
decimal_by n h false e =
    let z : n ≡ 0 = omega (arith, ltb-false 0 n e) in
    ap (λ (m : ℕ). is_figure (decimal m)) z ∙ ap is_figure (decimal_small 0 (omega arith)) ∙ zero_figure

pub decimal_figure : (n : ℕ) → n < 10 ^ 20 → is_figure (decimal n) ≡ true
decimal_figure n h = decimal_by n h (ltb 0 n) refl

pub signed_figure : (z : ℤ) → nat_abs z < 10 ^ 20 → is_figure (signed z) ≡ true
unfolding signed
signed_figure (pos n) h = ap (λ (t : Bool). is_figure (cond t (minus ++ decimal n) (decimal n))) (le-ltb n 0 (omega arith)) ∙ decimal_figure n h
signed_figure (negsuc n) h = minus_figure (decimal (suc n)) (decimal_positive (suc n) (omega arith) h)

-- ---- no digit is a space or a newline

digit_over : (b : ℕ) → is_digit b ≡ true → 32 < b
digit_over b p = let l = leb-true 48 b (and_left (leb 48 b) (leb b 57) p) in omega arith

pub decimal_over : (n : ℕ) → over 32 (decimal n) ≡ true
unfolding decimal
decimal_over n = all_over_lem is_digit 32 digit_over (decimal_in 20 n) (decimal_digits 20 n)

signed_over_by : (w : List ℕ) (t : Bool) → over 32 w ≡ true → over 32 (cond t (minus ++ w) w) ≡ true
unfolding over
signed_over_by w true p = p
signed_over_by w false p = p

pub signed_over : (z : ℤ) → over 32 (signed z) ≡ true
unfolding signed
signed_over z = signed_over_by (decimal (nat_abs z)) (lt_z z (pos 0)) (decimal_over (nat_abs z))

-- ---- the address

hex_by : (d : ℕ) → d < 16 → (t : Bool) → ltb d 10 ≡ t → is_hex_digit (cond t (48 + d) (55 + d)) ≡ true
hex_by d h true e = let l = ltb-true d 10 e in either_left (is_digit (48 + d)) (leb 65 (48 + d) && leb (48 + d) 70) (both (le-leb 48 (48 + d) (omega arith)) (le-leb (48 + d) 57 (omega arith)))
hex_by d h false e = let l = ltb-false d 10 e in either_right (is_digit (55 + d)) (leb 65 (55 + d) && leb (55 + d) 70) (both (le-leb 65 (55 + d) (omega arith)) (le-leb (55 + d) 70 (omega arith)))

hex_hex : (k n : ℕ) → all is_hex_digit (hex k n) ≡ true
unfolding hex all
hex_hex zero n = refl
hex_hex (suc k) n = all_append is_hex_digit (hex k (n / 16)) (hex_digit (n % 16) ∷ []) (hex_hex k (n / 16)) (both (hex_by (n % 16) (omega arith) (ltb (n % 16) 10) refl) refl)

hex_digit_over : (b : ℕ) → is_hex_digit b ≡ true → (t : Bool) → is_digit b ≡ t → 32 < b
hex_digit_over b p true e = let l = leb-true 48 b (and_left (leb 48 b) (leb b 57) e) in omega arith
hex_digit_over b p false e =
    let q : (leb 65 b && leb b 70) ≡ true = ap (λ (t : Bool). t || (leb 65 b && leb b 70)) (sym e) ∙ p in
    let l = leb-true 65 b (and_left (leb 65 b) (leb b 70) q) in
    omega arith

pub hex_over : (k n : ℕ) → over 32 (hex k n) ≡ true
hex_over k n = all_over_lem is_hex_digit 32 (λ b p. hex_digit_over b p (is_digit b) refl) (hex k n) (hex_hex k n)

pub hex_address : (n : ℕ) → is_address (hex 6 n) ≡ true
unfolding is_address
hex_address n = both (eq-eqb (length (hex 6 n)) 6 (hex_length 6 n)) (hex_hex 6 n)
