-- What a merge reads in a listing of our own: the numbers of the header, and the key of each line. They are the numbers and the keys that were written.
-- Assumes nothing.
use Prim.Native.Nat.{ℕ, zero, suc, ◌+◌, ◌-◌, ◌*◌, ◌/◌, ◌%◌, ◌^◌, ◌≤◌, ◌<◌}
use native.Mathlib.Omega.{arith}
use mathlib.Core.Bool.{Bool, true, false, cond, ◌||◌}
use mathlib.Core.Path.{◌≡◌, refl, ap, ap₂, sym, ◌∙◌}
use mathlib.Core.List.{List, [], ◌∷◌, ◌++◌, append_assoc}
use lib.Dec.{eqb, leb, ltb}
use lib.ListN.{get_or}
use borrow.Author.Tests.{le-leb, lt-leb, ltb-true, ltb-false, ne_eqb}
use Rattle.fields.proofs.Bools.{both, and_left, and_right}
use Rattle.keys.specs.declared.Kind.{Kind}
use Rattle.keys.specs.declared.Kind.TheVariants.{N, C}
use Rattle.keys.specs.Keys.{addresses, kinds, letter_of, kind_at, key_for, is_key, coarse_in, flag_in, station_in, address_in}
use Rattle.keys.proofs.Laws.{key_back}
use Rattle.text.specs.declared.Row.{Row}
use Rattle.text.specs.Numbers.{decimal_in, decimal, hex, hex_digit}
use Rattle.text.specs.Lines.{newline, field, clock_label, tracks_label, bad_label, header_text}
use Rattle.text.proofs.Digits.{decimal_small, decimal_large}
use Rattle.form.specs.Form.{is_digit, all}
use Rattle.form.proofs.Own.{either_left, either_right, decimal_digits, pow_ten}
use Rattle.form.proofs.OwnLines.{spaced, sender_by, column_words, row_line}
use Rattle.merge.specs.Merged.{most, further, number_from, behind, field_in, behind_field, clock_in, bad_in, hex_value, address_of, kind_by, is_small, is_teen, sender_fits, flag_of, station_of, key_in}

-- ---- a number

digit : (d : ℕ) → d < 10 → is_digit (48 + d) ≡ true
digit d h = both (le-leb 48 (48 + d) (omega arith)) (le-leb (48 + d) 57 (omega arith))

further_is : (n d : ℕ) → 10 * n + d ≤ most → further n (48 + d) ≡ 10 * n + d
unfolding further
further_is n d l =
    ap (λ (x : ℕ). cond (leb (10 * n + x) most) (10 * n + x) most) (let e : 48 + d - 48 ≡ d = omega arith in e) ∙ ap (λ (t : Bool). cond t (10 * n + d) most) (le-leb (10 * n + d) most l)

one_more : (n d : ℕ) (rest : List ℕ) → d < 10 → 10 * n + d ≤ most → number_from n ((48 + d) ∷ rest) ≡ number_from (10 * n + d) rest
unfolding number_from
one_more n d rest h l = ap (λ (t : Bool). cond t (number_from (further n (48 + d)) rest) n) (digit d h) ∙ ap (λ (m : ℕ). number_from m rest) (further_is n d l)

number_in : (k n : ℕ) → n < 10 ^ k → n ≤ most → (rest : List ℕ) → number_from 0 (decimal_in k n ++ rest) ≡ number_from n rest
unfolding decimal_in
number_in zero n h l rest = ap (λ (m : ℕ). number_from m rest) (let e : 0 ≡ n = omega arith in e)
number_in (suc k) n h l rest = by (ltb n 10) refl (number_in k (n / 10) (omega (arith, pow_ten k)) (omega arith))
  where
    by : (t : Bool) → ltb n 10 ≡ t → ((more : List ℕ) → number_from 0 (decimal_in k (n / 10) ++ more) ≡ number_from (n / 10) more)
        → number_from 0 (cond t ((48 + n) ∷ []) (decimal_in k (n / 10) ++ ((48 + n % 10) ∷ [])) ++ rest) ≡ number_from n rest
    by true e before = one_more 0 n rest (ltb-true n 10 e) (omega arith) ∙ ap (λ (m : ℕ). number_from m rest) (let z : 10 * 0 + n ≡ n = omega arith in z)
    by false e before =
        ap (number_from 0) (append_assoc (decimal_in k (n / 10)) ((48 + n % 10) ∷ []) rest)
        ∙ before ((48 + n % 10) ∷ rest)
        ∙ one_more (n / 10) (n % 10) rest (omega arith) (omega arith)
        ∙ ap (λ (m : ℕ). number_from m rest) (let z : 10 * (n / 10) + n % 10 ≡ n = omega arith in z)

number_of : (n : ℕ) → n < 2 ^ 64 → (rest : List ℕ) → number_from 0 (decimal n ++ rest) ≡ number_from n rest
unfolding decimal
number_of n h rest = number_in 20 n (omega arith) (omega arith) rest

behind_digits : (w rest : List ℕ) → all is_digit w ≡ true → behind (w ++ rest) ≡ behind rest
unfolding behind all
behind_digits [] rest p = refl
behind_digits (b ∷ w) rest p =
    ap (λ (t : Bool). cond t (behind (w ++ rest)) (b ∷ (w ++ rest))) (and_left (is_digit b) (all is_digit w) p) ∙ behind_digits w rest (and_right (is_digit b) (all is_digit w) p)

behind_of : (n : ℕ) (rest : List ℕ) → behind (decimal n ++ rest) ≡ behind rest
unfolding decimal
behind_of n rest = behind_digits (decimal_in 20 n) rest (decimal_digits 20 n)

-- ---- the header

flat : (c x t y b z n : List ℕ) → (c ++ x) ++ (t ++ y) ++ (b ++ z) ++ n ≡ c ++ (x ++ (t ++ (y ++ (b ++ (z ++ n)))))
flat c x t y b z n = simp append_assoc

module _ (clock tracks bad : ℕ) where
  abbrev at_bad : List ℕ
  at_bad = bad_label ++ (decimal bad ++ newline)

  abbrev at_tracks : List ℕ
  at_tracks = tracks_label ++ (decimal tracks ++ at_bad)

  header_flat : header_text clock tracks bad ≡ clock_label ++ (decimal clock ++ at_tracks)
  unfolding header_text field
  header_flat = flat clock_label (decimal clock) tracks_label (decimal tracks) bad_label (decimal bad) newline

  pub clock_back : clock < 2 ^ 64 → clock_in (header_text clock tracks bad) ≡ clock
  unfolding clock_in number_from
  clock_back h = ap (field_in clock_label) header_flat ∙ number_of clock h at_tracks

  pub bad_back : bad < 2 ^ 64 → bad_in (header_text clock tracks bad) ≡ bad
  unfolding bad_in behind number_from
  bad_back h =
      ap (λ (x : List ℕ). field_in bad_label (behind_field tracks_label (behind_field clock_label x))) header_flat
      ∙ ap (λ (x : List ℕ). field_in bad_label (behind_field tracks_label x)) (behind_of clock at_tracks)
      ∙ ap (field_in bad_label) (behind_of tracks at_bad)
      ∙ number_of bad h newline

-- ---- an address

hex_back : (d : ℕ) → d < 16 → hex_value (hex_digit d) ≡ d
unfolding hex_value
hex_back d h = by (ltb d 10) refl
  where
    by : (t : Bool) → ltb d 10 ≡ t → cond (leb (cond t (48 + d) (55 + d)) 57) (cond t (48 + d) (55 + d) - 48) (cond t (48 + d) (55 + d) - 55) ≡ d
    by true e =
        ap (λ (t : Bool). cond t (48 + d - 48) (48 + d - 55)) (le-leb (48 + d) 57 (omega (arith, ltb-true d 10 e))) ∙ (let z : 48 + d - 48 ≡ d = omega arith in z)
    by false e =
        ap (λ (t : Bool). cond t (55 + d - 48) (55 + d - 55)) (lt-leb (55 + d) 57 (omega (arith, ltb-false d 10 e))) ∙ (let z : 55 + d - 55 ≡ d = omega arith in z)

sixteenth : (n m : ℕ) → n < 16 * m → n / 16 < m
sixteenth n m h = omega arith

-- the last digit of a number
abbrev last : ℕ → ℕ
last n = hex_value (hex_digit (n % 16))

last_back : (n : ℕ) → 16 * (n / 16) + last n ≡ n
last_back n = omega (arith, hex_back (n % 16) (omega arith))

none_left : (a : ℕ) → a < 2 ^ 24 → 0 ≡ a / 16 / 16 / 16 / 16 / 16 / 16
none_left a h =
    let few : a / 16 / 16 / 16 / 16 / 16 / 16 < 1 = sixteenth _ 1 (sixteenth _ (2 ^ 4) (sixteenth _ (2 ^ 8) (sixteenth _ (2 ^ 12) (sixteenth _ (2 ^ 16) (sixteenth a (2 ^ 20) h))))) in
    omega arith

address_back : (x y a : ℕ) (rest : List ℕ) → a < 2 ^ 24 → address_of (x ∷ y ∷ (hex 6 a ++ rest)) ≡ a
unfolding address_of hex
address_back x y a rest h =
    let b : ℕ = a / 16 in
    let c : ℕ = b / 16 in
    let d : ℕ = c / 16 in
    let e : ℕ = d / 16 in
    let f : ℕ = e / 16 in
    ap (λ (z : ℕ). 16 * (16 * (16 * (16 * (16 * (16 * z + last f) + last e) + last d) + last c) + last b) + last a) (none_left a h)
    ∙ ap (λ (z : ℕ). 16 * (16 * (16 * (16 * (16 * z + last e) + last d) + last c) + last b) + last a) (last_back f)
    ∙ ap (λ (z : ℕ). 16 * (16 * (16 * (16 * z + last d) + last c) + last b) + last a) (last_back e)
    ∙ ap (λ (z : ℕ). 16 * (16 * (16 * z + last c) + last b) + last a) (last_back d)
    ∙ ap (λ (z : ℕ). 16 * (16 * z + last b) + last a) (last_back c)
    ∙ ap (λ (z : ℕ). 16 * z + last a) (last_back b)
    ∙ last_back a

-- ---- a key

-- of a kind that is not C
letter_apart : (i : ℕ) → eqb (letter_of (get_or kinds i N)) (letter_of (C 0 0)) ≡ false
letter_apart zero = refl
letter_apart (suc zero) = refl
letter_apart (suc (suc zero)) = refl
letter_apart (suc (suc (suc zero))) = refl
letter_apart (suc (suc (suc (suc zero)))) = refl
letter_apart (suc (suc (suc (suc (suc i))))) = refl

kind_back : (i : ℕ) → kind_by (letter_of (get_or kinds i N)) ≡ get_or kinds i N
unfolding kind_by
kind_back zero = refl
kind_back (suc zero) = refl
kind_back (suc (suc zero)) = refl
kind_back (suc (suc (suc zero))) = refl
kind_back (suc (suc (suc (suc zero)))) = refl
kind_back (suc (suc (suc (suc (suc i))))) = refl

fine_line : (i a : ℕ) (rest : List ℕ) → a < 2 ^ 24 → key_in (letter_of (get_or kinds i N) ∷ 32 ∷ (hex 6 a ++ rest)) ≡ key_for (get_or kinds i N) a
unfolding key_in
fine_line i a rest h =
    let l : List ℕ = letter_of (get_or kinds i N) ∷ 32 ∷ (hex 6 a ++ rest) in
    ap (λ (t : Bool). cond t (cond (sender_fits l) (key_for (C (flag_of l) (station_of l)) (address_of l)) 0) (key_for (kind_by (letter_of (get_or kinds i N))) (address_of l))) (letter_apart i)
    ∙ ap₂ (λ (k : Kind) (x : ℕ). key_for k x) (kind_back i) (address_back (letter_of (get_or kinds i N)) 32 a rest h)

-- of C
flag_is : (f : ℕ) → f < 2 → eqb (48 + f) 48 || eqb (48 + f) 49 ≡ true
flag_is zero h = refl
flag_is (suc zero) h = refl
flag_is (suc (suc f)) h = absurd (let z : ⊥ = omega arith in z)

module _ (f a : ℕ) (few : f < 2) (h : a < 2 ^ 24) where
  -- behind the flag
  abbrev coarse : List ℕ → List ℕ
  coarse rest = 67 ∷ 32 ∷ (hex 6 a ++ (32 ∷ (48 + f) ∷ 32 ∷ rest))

  key_by_lem : (s : ℕ) (rest : List ℕ) → sender_fits (coarse rest) ≡ true → flag_of (coarse rest) ≡ f → station_of (coarse rest) ≡ s → key_in (coarse rest) ≡ key_for (C f s) a
  unfolding key_in
  key_by_lem s rest fits flag station =
      let l : List ℕ = coarse rest in
      ap (λ (t : Bool). cond t (key_for (C (flag_of l) (station_of l)) (address_of l)) 0) fits
      ∙ ap₂ (λ (k : Kind) (x : ℕ). key_for k x) (ap₂ (λ (x y : ℕ). C x y) flag station) (address_back 67 32 a (32 ∷ (48 + f) ∷ 32 ∷ rest) h)

  small_line : (s : ℕ) (rest : List ℕ) → s < 10 → key_in (coarse ((48 + s) ∷ 32 ∷ rest)) ≡ key_for (C f s) a
  unfolding sender_fits flag_of station_of hex
  small_line s rest g =
      key_by_lem s ((48 + s) ∷ 32 ∷ rest)
      (both (both (flag_is f few) refl) (either_left _ _ (both (both refl (le-leb 48 (48 + s) (omega arith))) (le-leb (48 + s) 57 (omega arith)))))
      (let z : 48 + f - 48 ≡ f = omega arith in z)
      (let z : 48 + s - 48 ≡ s = omega arith in z)

  teen_line : (s : ℕ) (rest : List ℕ) → s < 6 → key_in (coarse (49 ∷ (48 + s) ∷ 32 ∷ rest)) ≡ key_for (C f (10 + s)) a
  unfolding sender_fits flag_of station_of hex
  teen_line s rest g =
      let l : List ℕ = coarse (49 ∷ (48 + s) ∷ 32 ∷ rest) in
      key_by_lem (10 + s) (49 ∷ (48 + s) ∷ 32 ∷ rest)
      (both (both (flag_is f few) refl)
      (either_right (is_small l) (is_teen l) (both (both (both refl (le-leb 48 (48 + s) (omega arith))) (le-leb (48 + s) 53 (omega arith))) refl)))
      (let z : 48 + f - 48 ≡ f = omega arith in z)
      (ap (λ (t : Bool). cond t (49 - 48) (10 + (48 + s - 48))) (ne_eqb (48 + s) 32 (λ e. omega arith)) ∙ (let z : 10 + (48 + s - 48) ≡ 10 + s = omega arith in z))

  station_line : (s : ℕ) (rest : List ℕ) → s < 16 → key_in (67 ∷ 32 ∷ (hex 6 a ++ (32 ∷ (decimal f ++ (32 ∷ (decimal s ++ (32 ∷ rest))))))) ≡ key_for (C f s) a
  station_line s rest g =
      ap (λ (w : List ℕ). key_in (67 ∷ 32 ∷ (hex 6 a ++ (32 ∷ (w ++ (32 ∷ (decimal s ++ (32 ∷ rest)))))))) (decimal_small f (omega arith)) ∙ by (ltb s 10) refl
    where
      by : (t : Bool) → ltb s 10 ≡ t → key_in (coarse (decimal s ++ (32 ∷ rest))) ≡ key_for (C f s) a
      by true e = ap (λ (w : List ℕ). key_in (coarse (w ++ (32 ∷ rest)))) (decimal_small s (ltb-true s 10 e)) ∙ small_line s rest (ltb-true s 10 e)
      by false e =
          let ten : 10 ≤ s = ltb-false s 10 e in
          let more : s ≡ 10 + (s - 10) = omega arith in
          let digits : decimal s ≡ 49 ∷ (48 + (s - 10)) ∷ [] =
          decimal_large s ten (omega arith)
          ∙ ap (λ (w : List ℕ). w ++ ((48 + s % 10) ∷ [])) (decimal_small (s / 10) (omega arith))
          ∙ ap₂ (λ (x y : ℕ). x ∷ y ∷ []) (let z : 48 + s / 10 ≡ 49 = omega arith in z) (let z : 48 + s % 10 ≡ 48 + (s - 10) = omega arith in z) in
          ap (λ (w : List ℕ). key_in (coarse (w ++ (32 ∷ rest)))) digits ∙ teen_line (s - 10) rest (omega arith) ∙ ap (λ (x : ℕ). key_for (C f x) a) (sym more)

-- of any
module _ (r : Row) (h : is_key r.key ≡ true) where
  abbrev key : ℕ
  key = r.key

  abbrev kind_for : Bool → Kind
  kind_for coarse = cond coarse (C (flag_in key) (station_in key)) (kind_at (key / addresses))

  abbrev line_by : Bool → List ℕ
  line_by coarse = letter_of (kind_for coarse) ∷ 32 ∷ (hex 6 (address_in key) ++ spaced (sender_by coarse (flag_in key) (station_in key) ++ column_words r))

  line_is : row_line r ≡ line_by (coarse_in key)
  unfolding row_line spaced
  line_is = refl

  by_kind : (coarse : Bool) → key_in (line_by coarse) ≡ key_for (kind_for coarse) (address_in key)
  unfolding spaced
  by_kind true = station_line (flag_in key) (address_in key) (omega arith) (omega arith) (station_in key) _ (omega arith)
  by_kind false = fine_line (key / addresses - 1) (address_in key) _ (omega arith)

  pub line_key : key_in (row_line r) ≡ r.key
  line_key = ap key_in line_is ∙ by_kind (coarse_in key) ∙ key_back key h
