-- Reading back what was written, over the width: by induction, a byte at a time.
-- Assumes nothing.
use Prim.Native.Nat.{ℕ, zero, suc, ◌+◌, ◌*◌, ◌/◌, ◌%◌, ◌^◌, ◌<◌}
use mathlib.Core.Path.{◌≡◌, refl, sym, ap, ap₂, ◌∙◌}
use mathlib.Core.List.{List, [], ◌∷◌, ◌++◌}
use native.Mathlib.Omega.{arith}
use lib.ListN.{length, get_or}
use lib.Pow.{pow-add, mod-pow-add}
use Rattle.fields.specs.Bytes.{Bytes}
use Rattle.memory.specs.Bytes.{number_at, low_bytes}

pub low_length : (k n : ℕ) → length (low_bytes k n) ≡ k
unfolding low_bytes
low_length zero n = refl
low_length (suc k) n = ap suc (low_length k (n / 256))

-- ---- in the code's words: one byte after another, and four bytes before the rest

pub number_1 : (s : List ℕ) (a : ℕ) → number_at 1 s a ≡ get_or s a 0
unfolding number_at
number_1 s a = omega arith

module _ (s : List ℕ) (a : ℕ) where
  pub number_4 : number_at 4 s a ≡ get_or s a 0 + get_or s (a + 1) 0 * 256 + get_or s (a + 2) 0 * 65536 + get_or s (a + 3) 0 * 16777216
  unfolding number_at
  number_4 =
      let e₁ : a + 1 ≡ suc a = omega arith in
      let e₂ : a + 2 ≡ suc (suc a) = omega arith in
      let e₃ : a + 3 ≡ suc (suc (suc a)) = omega arith in
      rw (e₁, e₂, e₃) (omega arith)

  pub number_more : (k : ℕ) → number_at (suc (suc (suc (suc k)))) s a ≡ number_at 4 s a + number_at k s (a + 4) * 4294967296
  unfolding number_at
  number_more k =
      let e : a + 4 ≡ suc (suc (suc (suc a))) = omega arith in
      rw e (omega arith)

-- the number behind the first byte
pub number_rest : (k : ℕ) (s : List ℕ) (a : ℕ) → Bytes s → number_at (suc k) s a / 256 ≡ number_at k s (suc a)
unfolding number_at
number_rest k s a h = omega (arith, h a)

two : {a b : ℕ} {s t : List ℕ} → a ≡ b → s ≡ t → a ∷ s ≡ b ∷ t
two p q = ap₂ (λ (x : ℕ) (xs : List ℕ). x ∷ xs) p q

pub low_4 : (x : ℕ) → low_bytes 4 x ≡ x % 256 ∷ x / 256 % 256 ∷ x / 65536 % 256 ∷ x / 16777216 % 256 ∷ []
unfolding low_bytes
low_4 x = two refl (two refl (two (omega arith) (two (omega arith) refl)))

pub low_cut : (x : ℕ) → low_bytes 4 (x % 4294967296) ≡ low_bytes 4 x
low_cut x = low_4 (x % 4294967296) ∙ two (omega arith) (two (omega arith) (two (omega arith) (two (omega arith) refl))) ∙ sym (low_4 x)

low_join : (k x : ℕ) → low_bytes 4 x ++ low_bytes k (x / 4294967296) ≡ low_bytes (suc (suc (suc (suc k)))) x
unfolding low_bytes
low_join k x = two refl (two refl (two refl (two refl (ap (low_bytes k) {x = x / 4294967296} {y = x / 256 / 256 / 256 / 256} (omega arith)))))

pub low_more : (k x : ℕ) → low_bytes 4 (x % 4294967296) ++ low_bytes k (x / 4294967296) ≡ low_bytes (suc (suc (suc (suc k)))) x
low_more k x = ap (λ (l : List ℕ). l ++ low_bytes k (x / 4294967296)) (low_cut x) ∙ low_join k x

-- the bytes of a number behind its three low ones
pub low_7 : (x : ℕ) → x % 256 ∷ x / 256 % 256 ∷ x / 65536 % 256 ∷ low_bytes 4 (x / 16777216) ≡ low_bytes 7 x
unfolding low_bytes
low_7 x = two refl (two refl (two (omega arith) (ap (low_bytes 4) {x = x / 16777216} {y = x / 256 / 256 / 256} (omega arith))))

-- eight bytes are seven and one more
pub low_last : (x : ℕ) → low_bytes 7 x ++ (x / 72057594037927936 % 256 ∷ []) ≡ low_bytes 8 x
unfolding low_bytes
low_last x = two refl (two refl (two refl (two refl (two refl (two refl (two refl (two (omega arith) refl)))))))

-- ---- what was written is read back, within its bits

number_cons : (k x : ℕ) (xs : List ℕ) (a : ℕ) → number_at k (x ∷ xs) (suc a) ≡ number_at k xs a
unfolding number_at
number_cons zero x xs a = refl
number_cons (suc k) x xs a = ap (λ (n : ℕ). get_or xs a 0 + n * 256) (number_cons k x xs (suc a))

byte_more : (k n : ℕ) → n % 256 + n / 256 % 2 ^ (8 * k) * 256 ≡ n % 2 ^ (8 * suc k)
byte_more k n =
    let e : 8 * suc k ≡ 8 * k + 8 = omega arith in
    rw e (omega (arith, mod-pow-add n (8 * k) 8))

number_low : (k n : ℕ) (ys : List ℕ) → number_at k (low_bytes k n ++ ys) 0 ≡ n % 2 ^ (8 * k)
unfolding number_at low_bytes
number_low zero n ys = omega arith
number_low (suc k) n ys =
    ap (λ (x : ℕ). n % 256 + x * 256) (number_cons k (n % 256) (low_bytes k (n / 256) ++ ys) 0 ∙ number_low k (n / 256) ys) ∙ byte_more k n

pub read_back : (k n : ℕ) (xs ys : List ℕ) → number_at k (xs ++ (low_bytes k n ++ ys)) (length xs) ≡ n % 2 ^ (8 * k)
read_back k n [] ys = number_low k n ys
read_back k n (x ∷ xs) ys = number_cons k x (xs ++ (low_bytes k n ++ ys)) (length xs) ∙ read_back k n xs ys

-- a number of k bytes is below 2 to their bits
pub number_lt : (k : ℕ) (s : List ℕ) (a : ℕ) → Bytes s → number_at k s a < 2 ^ (8 * k)
unfolding number_at
number_lt zero s a h = omega arith
number_lt (suc k) s a h =
    let e : 8 * suc k ≡ 8 * k + 8 = omega arith in
    rw (e, pow-add 2 (8 * k) 8) (omega (arith, h a, number_lt k s (suc a) h))
