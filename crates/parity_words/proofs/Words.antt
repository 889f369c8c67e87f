-- The division by words. The remainder of a string is that of the four bytes of a number: a word more is added to what 32 zero bits leave of that number.
-- What they leave is the exclusive-or of what they leave of each byte.
-- Assumes nothing.
use Prim.Native.Nat.{ℕ, ◌*◌, ◌/◌, ◌%◌, ◌^◌, ◌<◌}
use mathlib.Core.Path.{◌≡◌, refl, sym, ap, ap₂, ◌∙◌}
use mathlib.Core.List.{List, [], ◌∷◌, ◌++◌}
use native.Mathlib.Nat.{mod-eq_of_lt}
use native.Mathlib.Omega.{arith}
use lib.Dec.{lit<}
use lib.ListN.{length, replicate}
use lib.Bits.{bit_xor, xor_shr, xor_mod, xor_zero_r}
use Rattle.fields.specs.Bytes.{number, bytes_of, Bytes}
use Rattle.fields.proofs.Packing.{unpack_fit}
use Rattle.fields.proofs.Bytes.{number_bytes, bytes_number, fit_bytes}
use Rattle.parity.specs.Division.{remainder_from, bits_of, stepped, xor_all}
use Rattle.parity.specs.Parity.{remainder, seal}
use Rattle.parity.specs.Strings.{zeros}
use Rattle.parity.proofs.Linear.{cons}
use Rattle.parity.proofs.Halves.{zeros_before, in_halves}
use Rattle.parity.proofs.Seal.{remainder_more, remainder_below, remainder_xor, short}

-- ---- a byte and zero bytes

pub one_byte : (b n : ℕ) → b < 256 → remainder (b ∷ 0 ∷ 0 ∷ zeros n) ≡ remainder_from (b * 2 ^ 16) (bits_of (zeros n))
one_byte b n h =
    let e : number (b ∷ 0 ∷ 0 ∷ []) ≡ b * 2 ^ 16 = omega arith in
    remainder_more (b ∷ 0 ∷ 0 ∷ []) (zeros n)
    ∙ ap (λ (x : ℕ). remainder_from x (bits_of (zeros n))) (short (b ∷ 0 ∷ 0 ∷ []) (fit_bytes 3 (b ∷ 0 ∷ 0 ∷ []) (h, (lit< tt, (lit< tt, tt)))) (omega arith) ∙ e)

-- four bytes and four zero bytes, each byte by itself
pub four_apart : (a b c d : ℕ) → remainder (a ∷ b ∷ c ∷ d ∷ zeros 4)
    ≡ bit_xor (remainder (a ∷ zeros 7)) (bit_xor (remainder (b ∷ zeros 6)) (bit_xor (remainder (c ∷ zeros 5)) (remainder (d ∷ zeros 4))))
four_apart a b c d =
    in_halves (a ∷ []) (b ∷ c ∷ d ∷ zeros 4)
    ∙ ap (bit_xor (remainder (a ∷ zeros 7))) (in_halves (b ∷ []) (c ∷ d ∷ zeros 4) ∙ ap (bit_xor (remainder (b ∷ zeros 6))) (in_halves (c ∷ []) (d ∷ zeros 4)))

-- ---- a number as bytes

three_alone : (t : ℕ) → t < 2 ^ 24 → remainder (bytes_of 3 t) ≡ t
three_alone t h = short (bytes_of 3 t) (fit_bytes 3 (bytes_of 3 t) (unpack_fit (replicate 3 8) t)) (omega arith) ∙ number_bytes 3 t h

pub four_alone : (t : ℕ) → t < 2 ^ 24 → remainder (bytes_of 4 t) ≡ t
four_alone t h =
    let z : t / 2 ^ 24 % 2 ^ 8 ≡ 0 = omega arith in
    ap (λ (b : ℕ). remainder (b ∷ bytes_of 3 t)) z ∙ zeros_before 1 (bytes_of 3 t) ∙ three_alone t h

-- of the exclusive-or of two numbers
bytes_xor : (t w : ℕ) → bytes_of 4 (bit_xor t w) ≡ xor_all (bytes_of 4 t) (bytes_of 4 w)
bytes_xor t w = cons (byte 24) (cons (byte 16) (cons (byte 8) (cons (byte 0) refl)))
  where
    byte : (k : ℕ) → bit_xor t w / 2 ^ k % 2 ^ 8 ≡ bit_xor (t / 2 ^ k % 2 ^ 8) (w / 2 ^ k % 2 ^ 8)
    byte k = ap (λ (n : ℕ). n % 2 ^ 8) (xor_shr t w k) ∙ xor_mod (t / 2 ^ k) (w / 2 ^ k) 8

-- ---- a word more

pub word_more : (p ws : List ℕ) (x t : ℕ) → remainder p ≡ remainder (bytes_of 4 x) → t ≡ remainder (bytes_of 4 x ++ zeros 4) → length ws ≡ 4 → Bytes ws
    → remainder (p ++ ws) ≡ remainder (bytes_of 4 (bit_xor t (number ws)))
word_more p ws x t e f l h =
    let small : t < 2 ^ 24 = rw f (remainder_below (bytes_of 4 x ++ zeros 4)) in
    let z : remainder (p ++ zeros (length ws)) ≡ t =
    ap (λ (k : ℕ). remainder (p ++ zeros k)) l
    ∙ remainder_more p (zeros 4)
    ∙ ap (λ (r : ℕ). remainder_from r (bits_of (zeros 4))) e
    ∙ sym (remainder_more (bytes_of 4 x) (zeros 4))
    ∙ sym f in
    let w : ws ≡ bytes_of 4 (number ws) = sym (bytes_number ws h) ∙ ap (λ (k : ℕ). bytes_of k (number ws)) l in
    in_halves p ws
    ∙ ap₂ bit_xor (z ∙ sym (four_alone t small)) (ap remainder w)
    ∙ sym (remainder_xor (bytes_of 4 t) (bytes_of 4 (number ws)) refl)
    ∙ ap remainder (sym (bytes_xor t (number ws)))

-- the last word: its low byte is added to what a zero byte leaves of the others
pub last_word : (x : ℕ) → x < 2 ^ 32 → bit_xor (stepped (x / 256 % 2 ^ 24) 0) (x % 256) ≡ remainder (bytes_of 4 x)
unfolding stepped
last_word x h =
    let y : ℕ = x / 256 in
    let b : ℕ = x % 256 in
    let a : x / 2 ^ 24 % 2 ^ 8 ≡ y / 2 ^ 16 % 2 ^ 8 = omega arith in
    let c : x / 2 ^ 16 % 2 ^ 8 ≡ y / 2 ^ 8 % 2 ^ 8 = omega arith in
    let d : x / 2 ^ 8 % 2 ^ 8 ≡ y / 1 % 2 ^ 8 = omega arith in
    let f : x / 1 % 2 ^ 8 ≡ b = omega arith in
    let g : number (b ∷ []) ≡ b = omega arith in
    let e : bytes_of 4 x ≡ bytes_of 3 y ++ (b ∷ []) = cons a (cons c (cons d (cons f refl))) in
    let m : bit_xor (y % 2 ^ 24) 0 ≡ y = xor_zero_r (y % 2 ^ 24) ∙ mod-eq_of_lt (omega arith) in
    sym (ap remainder e
    ∙ in_halves (bytes_of 3 y) (b ∷ [])
    ∙ ap₂ bit_xor
    (remainder_more (bytes_of 3 y) (0 ∷ []) ∙ ap (λ (r : ℕ). remainder_from r (bits_of (0 ∷ []))) (three_alone y (omega arith) ∙ sym m))
    (short (b ∷ []) (fit_bytes 1 (b ∷ []) (omega arith, tt)) (omega arith) ∙ g))

-- ---- the seal is what three zero bytes leave of the remainder

pub seal_left : (s : List ℕ) → remainder (bytes_of 3 (remainder s) ++ 0 ∷ 0 ∷ 0 ∷ []) ≡ seal s
unfolding seal
seal_left s =
    remainder_more (bytes_of 3 (remainder s)) (0 ∷ 0 ∷ 0 ∷ [])
    ∙ ap (λ (r : ℕ). remainder_from r (bits_of (0 ∷ 0 ∷ 0 ∷ []))) (three_alone (remainder s) (remainder_below s))
    ∙ sym (remainder_more s (0 ∷ 0 ∷ 0 ∷ []))
