-- The laws of parity. More bytes go on from what is left; an exclusive-or leaves the exclusive-or; and three bytes set behind a string make its
-- remainder 0 just when they are the seal's, since three bytes are their own remainder and add it to what three zero bytes would leave.
-- Assumes nothing.
use Prim.Native.Nat.{ℕ, ◌+◌, ◌*◌, ◌%◌, ◌^◌, ◌<◌, ◌≤◌}
use mathlib.Core.Path.{◌≡◌, refl, sym, ap, ap₂, ◌∙◌}
use mathlib.Core.List.{List, [], ◌∷◌, ◌++◌, append_assoc}
use native.Mathlib.Nat.{mod-eq_of_lt}
use native.Mathlib.Omega.{arith}
use native.Mathlib.Numerals.{add-one}
use lib.Dec.{lit<}
use lib.Pow.{pow_mono}
use lib.ListN.{length, get_or, replicate, take, drop, length-drop, take-append-drop}
use lib.Seq.{take-suc}
use lib.Bits.{bit_xor, xor_self, xor_zero_r}
use Rattle.fields.specs.Bytes.{number, bytes_of, Bytes}
use Rattle.fields.proofs.Packing.{unpack_fit}
use Rattle.fields.proofs.Bytes.{number_bytes, bytes_number, bytes_drop, fit_bytes, number_lt, number_whole}
use Rattle.parity.specs.Division.{remainder_from, bits_of, stepped, xor_all}
use Rattle.parity.proofs.Linear.{linear, below_24, more_bytes, bits_bits, bits_xor, bits_length, added}
use Rattle.parity.proofs.Small.{bytes_alone}
use Rattle.parity.proofs.Xor.{xor_zero}
use Rattle.parity.specs.Parity.{remainder, seal}

-- ---- byte strings

pub remainder_more : (xs ys : List ℕ) → remainder (xs ++ ys) ≡ remainder_from (remainder xs) (bits_of ys)
unfolding remainder
remainder_more xs ys = more_bytes 0 xs ys

pub remainder_below : (s : List ℕ) → remainder s < 2 ^ 24
unfolding remainder
remainder_below s = below_24 0 (bits_of s) (lit< tt) (bits_bits s)

pub remainder_xor : (xs ys : List ℕ) → length xs ≡ length ys → remainder (xor_all xs ys) ≡ bit_xor (remainder xs) (remainder ys)
unfolding remainder
remainder_xor xs ys e =
    ap (remainder_from 0) (bits_xor xs ys e)
    ∙ linear (bits_of xs) (bits_of ys) 0 0 (bits_length xs ys e) (lit< tt) (lit< tt) (bits_bits xs) (bits_bits ys)

-- ---- up to three bytes

pub short : (s : List ℕ) → Bytes s → length s ≤ 3 → remainder s ≡ number s
unfolding remainder
short s h l =
    let m : 2 ^ (8 * length s) ≤ 2 ^ 24 = pow_mono {j = 24} (omega arith) in
    bytes_alone s h (omega (arith, number_lt s (length s) h refl))

-- ---- the seal

zeros_of_three : (bs : List ℕ) → length bs ≡ 24 → replicate (length bs) 0 ≡ bits_of (0 ∷ 0 ∷ 0 ∷ [])
zeros_of_three bs e = ap (λ (k : ℕ). replicate k 0) e

three_bits : (ys : List ℕ) → length ys ≡ 3 → length (bits_of ys) ≡ 24
three_bits ys e = bits_length ys (0 ∷ 0 ∷ 0 ∷ []) e

-- three bytes more are added to the seal
pub three : (s ys : List ℕ) → length ys ≡ 3 → Bytes ys → remainder (s ++ ys) ≡ bit_xor (seal s) (number ys)
unfolding seal remainder
three s ys e h =
    let r : ℕ = remainder s in
    remainder_more s ys
    ∙ ap (λ (x : ℕ). remainder_from x (bits_of ys)) (sym (xor_zero_r r))
    ∙ added (bits_of ys) r 0 (remainder_below s) (lit< tt) (bits_bits ys)
    ∙ ap₂ bit_xor
    (ap (remainder_from r) (zeros_of_three (bits_of ys) (three_bits ys e)) ∙ sym (remainder_more s (0 ∷ 0 ∷ 0 ∷ [])))
    (short ys h (omega arith))

pub seal_below : (s : List ℕ) → seal s < 2 ^ 24
unfolding seal
seal_below s = remainder_below (s ++ 0 ∷ 0 ∷ 0 ∷ [])

-- the seal's bytes make the remainder 0
pub sealed : (s : List ℕ) → remainder (s ++ bytes_of 3 (seal s)) ≡ 0
sealed s =
    three s (bytes_of 3 (seal s)) refl (fit_bytes 3 (bytes_of 3 (seal s)) (unpack_fit (replicate 3 8) (seal s)))
    ∙ ap (bit_xor (seal s)) (number_bytes 3 (seal s) (seal_below s))
    ∙ xor_self (seal s)

-- and no other three do
pub only_sealed : (s ys : List ℕ) → length ys ≡ 3 → Bytes ys → remainder (s ++ ys) ≡ 0 → ys ≡ bytes_of 3 (seal s)
only_sealed s ys e h z = sym (bytes_number ys h) ∙ ap₂ bytes_of e (xor_zero (seal s) (number ys) (sym (three s ys e h) ∙ z))

-- ---- a byte more

pub seal_none : seal [] ≡ 0
unfolding seal
seal_none = short (0 ∷ 0 ∷ 0 ∷ []) (fit_bytes 3 (0 ∷ 0 ∷ 0 ∷ []) (lit< tt, (lit< tt, (lit< tt, tt)))) (omega arith)

first_of_three : (b : ℕ) → b < 256 → Bytes (b ∷ 0 ∷ 0 ∷ [])
first_of_three b h = fit_bytes 3 (b ∷ 0 ∷ 0 ∷ []) (h, (lit< tt, (lit< tt, tt)))

pub seal_more : (s : List ℕ) (b : ℕ) → b < 256 → seal (s ++ b ∷ []) ≡ stepped (seal s) b
unfolding seal stepped
seal_more s b h =
    let n : number (b ∷ 0 ∷ 0 ∷ []) ≡ b * 2 ^ 16 = omega arith in
    ap remainder (append_assoc s (b ∷ []) (0 ∷ 0 ∷ 0 ∷ []) ∙ sym (append_assoc s (b ∷ 0 ∷ 0 ∷ []) (0 ∷ [])))
    ∙ remainder_more (s ++ b ∷ 0 ∷ 0 ∷ []) (0 ∷ [])
    ∙ ap (λ (x : ℕ). remainder_from x (bits_of (0 ∷ []))) (three s (b ∷ 0 ∷ 0 ∷ []) refl (first_of_three b h) ∙ ap (bit_xor (seal s)) n)

-- .. of a string, the byte at i
pub seal_next : (s : List ℕ) (i : ℕ) → Bytes s → i < length s → seal (take (i + 1) s) ≡ stepped (seal (take i s) % 2 ^ 24) (get_or s i 0)
seal_next s i h l =
    let e : take (i + 1) s ≡ take i s ++ (get_or s i 0 ∷ []) = rw add-one (take-suc s i 0 l) in
    ap seal e ∙ seal_more (take i s) (get_or s i 0) (h i) ∙ ap (λ (n : ℕ). stepped n (get_or s i 0)) (sym (mod-eq_of_lt (seal_below (take i s))))

-- ---- the code's number of up to three bytes

pub number_short : (s : List ℕ) → Bytes s → length s ≤ 3 → number s % 2 ^ 64 ≡ remainder s
number_short s h l = number_whole s h (omega arith) ∙ sym (short s h l)

-- the string in two parts, the last three bytes and those before them
pub by_parts : (s : List ℕ) (k : ℕ) → Bytes s → length s ≡ k + 3 → bit_xor (seal (take k s)) (number (drop k s)) ≡ remainder s
by_parts s k h e =
    let d : length (drop k s) ≡ 3 = omega (arith, length-drop k s) in
    sym (ap remainder (sym (take-append-drop k s)) ∙ three (take k s) (drop k s) d (bytes_drop k s h))
