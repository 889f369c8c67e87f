-- One wrong bit is always seen. A flip is the exclusive-or with zero bytes that have that bit alone set, so it adds to the remainder what those leave, which is not 0 at any of the 112 places: one computed test.
-- Assumes nothing.
use Prim.Native.Nat.{ℕ, zero, suc, ◌+◌, ◌-◌, ◌*◌, ◌/◌, ◌%◌, ◌^◌, ◌<◌, ◌≤◌}
use mathlib.Core.Path.{◌≡◌, refl, sym, ap, ◌∙◌}
use mathlib.Core.Bool.{Bool, not}
use mathlib.Core.List.{List, [], ◌∷◌}
use native.Mathlib.Omega.{arith}
use lib.Dec.{T, eqb}
use lib.Pow.{pow_pos}
use lib.Seq.{set_out, get_or-set_same}
use lib.ListN.{length, get_or, set, length-set, length-replicate}
use Rattle.std.specs.Int.Bits.{xor_assoc}
use lib.Bits.{bit_xor, xor_self, xor_zero_l, xor_zero_r}
use Rattle.fields.proofs.Tables.{at}
use Rattle.parity.specs.Division.{remainder_from, reduce, bits_of, xor_all}
use Rattle.parity.specs.Parity.{remainder, flipped}
use Rattle.parity.proofs.Linear.{cons, bits_xor}
use Rattle.parity.specs.Strings.{zeros}
use Rattle.parity.proofs.Seal.{remainder_xor}

-- ---- a flip as an exclusive-or

-- the value of bit k + 1 in its byte
abbrev weight : ℕ → ℕ
weight k = 2 ^ (7 - k % 8)

-- n bytes of which bit k + 1 alone is set
abbrev alone : ℕ → ℕ → List ℕ
alone n k = set (zeros n) (k / 8) (weight k)

xor_none : (s : List ℕ) → s ≡ xor_all s (zeros (length s))
xor_none [] = refl
xor_none (x ∷ s) = cons (sym (xor_zero_r x)) (xor_none s)

set_xor : (s : List ℕ) (i v : ℕ) → set s i (bit_xor (get_or s i 0) v) ≡ xor_all s (set (zeros (length s)) i v)
set_xor [] i v = refl
set_xor (x ∷ s) zero v = ap (λ (l : List ℕ). bit_xor x v ∷ l) (xor_none s)
set_xor (x ∷ s) (suc i) v = cons (sym (xor_zero_r x)) (set_xor s i v)

as_long : (s : List ℕ) (k : ℕ) → length s ≡ length (alone (length s) k)
as_long s k = sym (length-set (zeros (length s)) (k / 8) (weight k) ∙ length-replicate (length s) 0)

-- ---- what a flip is

pub flipped_length : (k : ℕ) (s : List ℕ) → length (flipped k s) ≡ length s
unfolding flipped
flipped_length zero s = refl
flipped_length (suc k) s = length-set s (k / 8) _

-- place 0, and any behind the last, flip nothing
pub no_place_0 : (s : List ℕ) → flipped 0 s ≡ s
unfolding flipped
no_place_0 s = refl

pub no_place_behind : (k : ℕ) (s : List ℕ) → 8 * length s < k → flipped k s ≡ s
unfolding flipped
no_place_behind zero s h = refl
no_place_behind (suc k) s h = set_out s (k / 8) _ (omega arith)

-- the bits of zero bytes, and of those with one bit set, by the eight places in its byte
bits_zeros : (s : List ℕ) → bits_of (zeros (length s)) ≡ zeros (length (bits_of s))
bits_zeros [] = refl
bits_zeros (x ∷ s) = ap (λ (l : List ℕ). 0 ∷ 0 ∷ 0 ∷ 0 ∷ 0 ∷ 0 ∷ 0 ∷ 0 ∷ l) (bits_zeros s)

bits_set : (n i j : ℕ) → j < 8 → i < n → bits_of (set (zeros n) i (2 ^ (7 - j))) ≡ set (bits_of (zeros n)) (8 * i + j) 1
bits_set zero i j p q = let z : ⊥ = omega arith in absurd z
bits_set (suc n) zero zero p q = refl
bits_set (suc n) zero (suc zero) p q = refl
bits_set (suc n) zero (suc (suc zero)) p q = refl
bits_set (suc n) zero (suc (suc (suc zero))) p q = refl
bits_set (suc n) zero (suc (suc (suc (suc zero)))) p q = refl
bits_set (suc n) zero (suc (suc (suc (suc (suc zero))))) p q = refl
bits_set (suc n) zero (suc (suc (suc (suc (suc (suc zero)))))) p q = refl
bits_set (suc n) zero (suc (suc (suc (suc (suc (suc (suc zero))))))) p q = refl
bits_set (suc n) zero (suc (suc (suc (suc (suc (suc (suc (suc j)))))))) p q = let z : ⊥ = omega arith in absurd z
bits_set (suc n) (suc i) j p q =
    let e : 8 * suc i + j ≡ suc (suc (suc (suc (suc (suc (suc (suc (8 * i + j)))))))) = omega arith in
    ap (λ (l : List ℕ). 0 ∷ 0 ∷ 0 ∷ 0 ∷ 0 ∷ 0 ∷ 0 ∷ 0 ∷ l) (bits_set n i j p (omega arith))
    ∙ ap (λ (k : ℕ). set (bits_of (zeros (suc n))) k 1) (sym e)

-- of the bits of the string that one, the (k + 1)th, becomes the other, and no other changes
pub flipped_bits : (k : ℕ) (s : List ℕ) → k < 8 * length s → bits_of (flipped (suc k) s) ≡ set (bits_of s) k (bit_xor (get_or (bits_of s) k 0) 1)
unfolding flipped
flipped_bits k s h =
    let e : 8 * (k / 8) + k % 8 ≡ k = omega arith in
    ap bits_of (set_xor s (k / 8) (weight k))
    ∙ bits_xor s (alone (length s) k) (as_long s k)
    ∙ ap (xor_all (bits_of s))
    (bits_set (length s) (k / 8) (k % 8) (omega arith) (omega arith)
    ∙ ap (λ (i : ℕ). set (bits_of (zeros (length s))) i 1) e
    ∙ ap (λ (l : List ℕ). set l k 1) (bits_zeros s))
    ∙ sym (set_xor (bits_of s) k 1)

set_twice : (s : List ℕ) (i v : ℕ) → set (set s i (bit_xor (get_or s i 0) v)) i (bit_xor (get_or (set s i (bit_xor (get_or s i 0) v)) i 0) v) ≡ s
set_twice [] i v = refl
set_twice (x ∷ s) zero v = ap (λ (d : ℕ). d ∷ s) (xor_assoc x v v ∙ ap (bit_xor x) (xor_self v) ∙ xor_zero_r x)
set_twice (x ∷ s) (suc i) v = ap (λ (l : List ℕ). x ∷ l) (set_twice s i v)

-- flipped twice the string is as it was ..
pub flipped_twice : (k : ℕ) (s : List ℕ) → flipped k (flipped k s) ≡ s
unfolding flipped
flipped_twice zero s = refl
flipped_twice (suc k) s = set_twice s (k / 8) (weight k)

xor_same : (x v : ℕ) → bit_xor x v ≡ x → v ≡ 0
xor_same x v e = sym (xor_zero_l v) ∙ ap (λ (y : ℕ). bit_xor y v) (sym (xor_self x)) ∙ xor_assoc x x v ∙ ap (bit_xor x) e ∙ xor_self x

-- .. and once it is not
pub flipped_once : (k : ℕ) (s : List ℕ) → 1 ≤ k → k ≤ 8 * length s → flipped k s ≡ s → ⊥
unfolding flipped
flipped_once zero s l h e = omega arith
flipped_once (suc k) s l h e =
    let i : ℕ = k / 8 in
    let v : weight k ≡ 0 =
    xor_same (get_or s i 0) (weight k) (sym (get_or-set_same s i (bit_xor (get_or s i 0) (weight k)) 0 (omega arith)) ∙ ap (λ (t : List ℕ). get_or t i 0) e) in
    let p = pow_pos (7 - k % 8) in
    omega arith

-- ---- what it does to the remainder

-- a flipped bit adds what it leaves alone
pub flipped_adds : (k : ℕ) (s : List ℕ) → remainder (flipped (suc k) s) ≡ bit_xor (remainder s) (remainder (alone (length s) k))
unfolding flipped
flipped_adds k s = ap remainder (set_xor s (k / 8) (weight k)) ∙ remainder_xor s (alone (length s) k) (as_long s k)

-- the 112 places: one computed test
seen : ℕ → ℕ → Bool
seen k x = not (eqb (remainder (alone 14 k)) 0)

not_zero : (n : ℕ) → T (not (eqb n 0)) → n ≡ 0 → ⊥
not_zero zero t e = t
not_zero (suc n) t e = omega arith

all_seen : (k : ℕ) → k < 112 → remainder (alone 14 k) ≡ 0 → ⊥
unfolding seen remainder remainder_from reduce
all_seen k h = not_zero (remainder (alone 14 k)) (at seen (zeros 112) tt k h)

-- of 14 bytes that leave 0, with one bit flipped, the remainder is not 0
pub one_wrong_bit : (k : ℕ) (s : List ℕ) → length s ≡ 14 → remainder s ≡ 0 → 1 ≤ k → k ≤ 112 → remainder (flipped k s) ≡ 0 → ⊥
one_wrong_bit zero s e z l h r = omega arith
one_wrong_bit (suc k) s e z l h r =
    all_seen k (omega arith)
    (ap (λ (n : ℕ). remainder (alone n k)) (sym e)
    ∙ sym (xor_zero_l (remainder (alone (length s) k)))
    ∙ ap (λ (x : ℕ). bit_xor x (remainder (alone (length s) k))) (sym z)
    ∙ sym (flipped_adds k s) ∙ r)
