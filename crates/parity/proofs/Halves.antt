-- Why parity may be split: zero bytes leave 0, so zero bytes before a string change nothing; and a string is the exclusive-or of its two halves, each with zero bytes for the other.
-- Assumes nothing.
use Prim.Native.Nat.{ℕ, zero, suc}
use mathlib.Core.Path.{◌≡◌, refl, sym, ap, ◌∙◌}
use mathlib.Core.List.{List, [], ◌∷◌, ◌++◌}
use lib.ListN.{length, length-replicate}
use lib.Bits.{bit_xor, xor_self, xor_zero_r}
use Rattle.parity.specs.Division.{remainder_from, bits_of, xor_all}
use Rattle.parity.specs.Parity.{remainder}
use Rattle.parity.proofs.Linear.{cons, zeros_xor}
use Rattle.parity.specs.Strings.{zeros}
use Rattle.parity.proofs.Seal.{remainder_xor, remainder_more}

-- ---- zero bytes

zeros_twice : (n : ℕ) → xor_all (zeros n) (zeros n) ≡ zeros n
zeros_twice zero = refl
zeros_twice (suc n) = ap (λ (l : List ℕ). 0 ∷ l) (zeros_twice n)

-- all-zero bytes leave 0, since they are their own exclusive-or
pub remainder_zeros : (n : ℕ) → remainder (zeros n) ≡ 0
remainder_zeros n = ap remainder (sym (zeros_twice n)) ∙ remainder_xor (zeros n) (zeros n) refl ∙ xor_self (remainder (zeros n))

pub zeros_before : (n : ℕ) (s : List ℕ) → remainder (zeros n ++ s) ≡ remainder s
unfolding remainder
zeros_before n s = remainder_more (zeros n) s ∙ ap (λ (r : ℕ). remainder_from r (bits_of s)) (remainder_zeros n)

-- ---- two halves

-- each with zero bytes for the other
apart : (xs ys : List ℕ) → xor_all (xs ++ zeros (length ys)) (zeros (length xs) ++ ys) ≡ xs ++ ys
apart [] ys = zeros_xor ys
apart (x ∷ xs) ys = cons (xor_zero_r x) (apart xs ys)

as_long : (xs ys : List ℕ) → length (xs ++ zeros (length ys)) ≡ length (zeros (length xs) ++ ys)
as_long [] ys = length-replicate (length ys) 0
as_long (x ∷ xs) ys = ap suc (as_long xs ys)

-- the remainder of a string: that of its first half with zero bytes for the second, and that of the second by itself
pub in_halves : (xs ys : List ℕ) → remainder (xs ++ ys) ≡ bit_xor (remainder (xs ++ zeros (length ys))) (remainder ys)
in_halves xs ys =
    ap remainder (sym (apart xs ys))
    ∙ remainder_xor (xs ++ zeros (length ys)) (zeros (length xs) ++ ys) (as_long xs ys)
    ∙ ap (bit_xor (remainder (xs ++ zeros (length ys)))) (zeros_before (length xs) ys)
