-- Bits below x^24 are their own remainder: nothing is divided, a bit at a time. The bits of bytes are the number that the bytes make.
-- Assumes nothing.
use Prim.Native.Nat.{ℕ, zero, suc, ◌+◌, ◌*◌, ◌^◌, ◌<◌, ◌≤◌}
use mathlib.Core.Path.{◌≡◌, refl, ap, ap₂, sym, ◌∙◌}
use mathlib.Core.List.{List, [], ◌∷◌}
use native.Mathlib.Nat.{mod-eq_of_lt, mul_comm, mul_assoc, add-mul, add_assoc, mul-le-mul_left}
use native.Mathlib.Omega.{arith}
use lib.Pow.{pow_pos, pow-add}
use lib.ListN.{length, replicate}
use Rattle.fields.specs.Packing.{total, pack, unpack}
use Rattle.fields.specs.Bytes.{number, Bytes}
use Rattle.fields.proofs.Packing.{pack_unpack, pack_append}
use Rattle.fields.proofs.Bytes.{total_bytes}
use Rattle.parity.specs.Division.{remainder_from, bits_of}
use Rattle.parity.proofs.Linear.{low}
use Rattle.parity.specs.Strings.{ones, bit_value}

total_ones : (k : ℕ) → total (replicate k 1) ≡ k
total_ones zero = refl
total_ones (suc k) = omega (arith, total_ones k)

pub small : (bs : List ℕ) (s : ℕ) → s * 2 ^ length bs + bit_value bs < 2 ^ 24 → remainder_from s bs ≡ s * 2 ^ length bs + bit_value bs
unfolding remainder_from bit_value ones
small [] s h = omega arith
small (b ∷ bs) s h =
    let p : ℕ = 2 ^ length bs in
    let v : ℕ = pack (replicate (length bs) 1) bs in
    let e : 2 ^ suc (length bs) ≡ 2 * p = ap (λ (k : ℕ). 2 ^ k) (let q : suc (length bs) ≡ 1 + length bs = omega arith in q) ∙ pow-add 2 1 (length bs) in
    let w : (2 * s + b) * p + v ≡ s * 2 ^ suc (length bs) + (b * 2 ^ total (replicate (length bs) 1) + v) =
    rw (e, total_ones (length bs)) (ap (λ (k : ℕ). k + v) (add-mul (2 * s) b p ∙ ap (λ (k : ℕ). k + b * p) (ap (λ (k : ℕ). k * p) (mul_comm 2 s) ∙ mul_assoc s 2 p)) ∙ add_assoc (s * (2 * p)) (b * p) v) in
    let h' : (2 * s + b) * p + v < 2 ^ 24 = rw w h in
    let k : (2 * s + b) * 1 ≤ (2 * s + b) * p = mul-le-mul_left (2 * s + b) (pow_pos (length bs)) in
    let l : 2 * s + b < 2 ^ 24 = omega arith in
    rw (low (2 * s + b) l) (small bs (2 * s + b) h' ∙ w)

pub small_0 : (bs : List ℕ) (n : ℕ) → bit_value bs ≡ n → n < 2 ^ 24 → remainder_from 0 bs ≡ n
small_0 bs n e h = small bs 0 (omega arith) ∙ omega arith

-- ---- the bits of bytes

length_bits : (s : List ℕ) → length (bits_of s) ≡ 8 * length s
length_bits [] = refl
length_bits (b ∷ bs) = omega (arith, length_bits bs)

pub bits_number : (s : List ℕ) → Bytes s → bit_value (bits_of s) ≡ number s
unfolding bit_value ones
bits_number [] h = refl
bits_number (b ∷ bs) h =
    let ws : List ℕ = 1 ∷ 1 ∷ 1 ∷ 1 ∷ 1 ∷ 1 ∷ 1 ∷ 1 ∷ [] in
    let vs : List ℕ = replicate (length (bits_of bs)) 1 in
    let t : total vs ≡ total (replicate (length bs) 8) = total_ones (length (bits_of bs)) ∙ length_bits bs ∙ sym (total_bytes (length bs)) in
    pack_append ws vs (unpack ws b) (bits_of bs) refl
    ∙ ap₂ (λ (x y : ℕ). x + y)
    (ap₂ (λ (x y : ℕ). x * 2 ^ y) (pack_unpack ws b ∙ mod-eq_of_lt (h 0)) t)
    (bits_number bs (λ i. h (suc i)))

-- bytes below x^24 are their own remainder
pub bytes_alone : (s : List ℕ) → Bytes s → number s < 2 ^ 24 → remainder_from 0 (bits_of s) ≡ number s
bytes_alone s h l = small_0 (bits_of s) (number s) (bits_number s h) l
