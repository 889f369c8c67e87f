-- Bytes and the number they make are inverse to each other: the laws of packing at widths of 8.
-- Assumes nothing.
use Prim.Native.Nat.{ℕ, zero, suc, ◌+◌, ◌*◌, ◌/◌, ◌%◌, ◌^◌, ◌<◌, ◌≤◌}
use mathlib.Core.Path.{◌≡◌, refl, sym, ap, ap₂, subst, ◌∙◌}
use mathlib.Core.List.{List, [], ◌∷◌, ◌++◌}
use native.Mathlib.Nat.{mod-eq_of_lt}
use native.Mathlib.Omega.{arith}
use lib.Dec.{lit<}
use lib.Pow.{pow_mono, shr-shr}
use lib.ListN.{length, replicate, take, drop, set, length-append, length-replicate, replicate-append-replicate, length-set, length-drop, take-append-drop}
use lib.Seq.{get_or-drop, drop-cons, get_or-set_same, drop-set-lt}
use Rattle.fields.specs.Packing.{total, pack, Fit}
use Rattle.fields.specs.Bytes.{number, bytes_of, Bytes}
use Rattle.fields.proofs.Packing.{pack_append, pack_lt, unpack_pack, pack_unpack}

-- bytes: two parts, one after the other; one byte more
pub number_append : (xs ys : List ℕ) → number (xs ++ ys) ≡ number xs * 2 ^ total (replicate (length ys) 8) + number ys
number_append xs ys =
    ap (λ (ws : List ℕ). pack ws (xs ++ ys)) (ap (λ (k : ℕ). replicate k 8) (length-append xs ys) ∙ sym (replicate-append-replicate (length xs) (length ys) 8))
    ∙ pack_append (replicate (length xs) 8) (replicate (length ys) 8) xs ys (length-replicate (length xs) 8)

pub number_snoc : (xs : List ℕ) (b : ℕ) → number (xs ++ b ∷ []) ≡ number xs * 256 + b
number_snoc xs b = omega (arith, number_append xs (b ∷ []))

-- the bits of k bytes
pub total_bytes : (k : ℕ) → total (replicate k 8) ≡ 8 * k
total_bytes zero = refl
total_bytes (suc k) = omega (arith, total_bytes k)

-- one byte more, written in front of those that are written
pub put_byte : (l : List ℕ) (n j k : ℕ) → j < length l → drop (suc j) l ≡ bytes_of k n → drop j (set l j (n / 2 ^ (8 * k) % 256)) ≡ bytes_of (suc k) n
put_byte l n j k h e =
    let v : ℕ = n / 2 ^ (8 * k) % 256 in
    let h' : j < length (set l j v) = simp length-set h in
    drop-cons (set l j v) j 0 h'
    ∙ ap₂ (λ (x : ℕ) (xs : List ℕ). x ∷ xs)
    (get_or-set_same l j v 0 h ∙ ap (λ (t : ℕ). n / 2 ^ t % 256) (sym (total_bytes k)))
    (drop-set-lt (suc j) l j v (omega arith) ∙ e)

pub shr_byte : (n k : ℕ) → n / 2 ^ (8 * k) / 256 ≡ n / 2 ^ (8 * suc k)
shr_byte n k = shr-shr n (8 * k) 8 ∙ ap (λ (t : ℕ). n / 2 ^ t) (let e : 8 * k + 8 ≡ 8 * suc k = omega arith in e)

pub bytes_fit : (s : List ℕ) → Bytes s → Fit (replicate (length s) 8) s
bytes_fit [] h = tt
bytes_fit (x ∷ xs) h = (h 0, bytes_fit xs (λ i. h (suc i)))

pub fit_bytes : (k : ℕ) (s : List ℕ) → Fit (replicate k 8) s → Bytes s
fit_bytes zero [] f i = lit< tt
fit_bytes zero (x ∷ xs) f i = absurd f
fit_bytes (suc k) [] f i = absurd f
fit_bytes (suc k) (x ∷ xs) f zero = f.0
fit_bytes (suc k) (x ∷ xs) f (suc i) = fit_bytes k xs f.1 i

pub bytes_take : (n : ℕ) (s : List ℕ) → Bytes s → Bytes (take n s)
bytes_take zero s h i = lit< tt
bytes_take (suc n) [] h i = lit< tt
bytes_take (suc n) (x ∷ xs) h zero = h 0
bytes_take (suc n) (x ∷ xs) h (suc i) = bytes_take n xs (λ j. h (suc j)) i

pub bytes_drop : (n : ℕ) (s : List ℕ) → Bytes s → Bytes (drop n s)
bytes_drop n s h i = rw (get_or-drop n s i 0) (h (n + i))

pub number_lt : (s : List ℕ) (k : ℕ) → Bytes s → length s ≡ k → number s < 2 ^ (8 * k)
number_lt s k h e = subst (λ (n : ℕ). number s < 2 ^ n) (total_bytes (length s) ∙ ap (λ (n : ℕ). 8 * n) e) (pack_lt (replicate (length s) 8) s (bytes_fit s h))

-- the bytes of the number that bytes make, and the number that the bytes of a number make
pub bytes_number : (s : List ℕ) → Bytes s → bytes_of (length s) (number s) ≡ s
bytes_number s h = unpack_pack (replicate (length s) 8) s (bytes_fit s h)

pub length_bytes : (k n : ℕ) → length (bytes_of k n) ≡ k
length_bytes zero n = refl
length_bytes (suc k) n = ap suc (length_bytes k n)

pub number_bytes : (k n : ℕ) → n < 2 ^ (8 * k) → number (bytes_of k n) ≡ n
number_bytes k n h =
    ap (λ (j : ℕ). pack (replicate j 8) (bytes_of k n)) (length_bytes k n)
    ∙ pack_unpack (replicate k 8) n
    ∙ mod-eq_of_lt (subst (λ (t : ℕ). n < 2 ^ t) (sym (total_bytes k)) h)

-- a number's bytes, cut after the first k
pub number_cut : (k m : ℕ) (s : List ℕ) → length s ≡ k + m → number s ≡ number (take k s) * 2 ^ (8 * m) + number (drop k s)
number_cut k m s e =
    let d : length (drop k s) ≡ m = omega (arith, length-drop k s) in
    ap number (sym (take-append-drop k s))
    ∙ number_append (take k s) (drop k s)
    ∙ ap (λ (t : ℕ). number (take k s) * 2 ^ t + number (drop k s)) (total_bytes (length (drop k s)) ∙ ap (λ (n : ℕ). 8 * n) d)

-- up to eight bytes make a number of 64 bits
pub number_whole : (s : List ℕ) → Bytes s → length s ≤ 8 → number s % 2 ^ 64 ≡ number s
number_whole s h l =
    let m : 2 ^ (8 * length s) ≤ 2 ^ 64 = pow_mono {j = 64} (omega arith) in
    mod-eq_of_lt (omega (arith, number_lt s (length s) h refl))
