-- The rule of each table, at all of its entries by a computed test: each is the step by a zero byte of the one before, and the first that of the table of `parity`.
-- Assumes nothing.
use Prim.Native.Nat.{ℕ, ◌*◌, ◌/◌, ◌%◌, ◌^◌, ◌<◌}
use mathlib.Core.Path.{◌≡◌, refl, sym, ap, ap₂, ◌∙◌}
use mathlib.Core.Bool.{Bool}
use mathlib.Core.List.{List, ◌∷◌, ◌++◌}
use native.Mathlib.Omega.{arith}
use lib.Dec.{eqb, eqb→eq}
use lib.ListN.{get_or}
use Rattle.std.specs.Int.Bits.{xor_assoc}
use lib.Bits.{bit_xor}
use Rattle.fields.specs.Bytes.{bytes_of}
use Rattle.fields.proofs.Tables.{at}
use Rattle.parity.specs.Code.{table}
use Rattle.parity.specs.Division.{reduce, remainder_from, bits_of}
use Rattle.parity.specs.Parity.{remainder}
use Rattle.parity.specs.Strings.{zeros}
use Rattle.parity.proofs.Entries.{entry_is}
use Rattle.parity.proofs.Linear.{cons, more_bits}
use Rattle.parity_words.specs.Code.{left1, left2, left3, left4}
use Rattle.parity_words.proofs.Words.{one_byte, four_apart}

right : List ℕ → ℕ → ℕ → Bool
right before k x = eqb x (remainder_from (get_or before k 0) (zeros 8))

step1 : (i : ℕ) → i < 256 → get_or left1 i 0 ≡ remainder_from (get_or table i 0) (zeros 8)
unfolding right remainder_from reduce
step1 i h = eqb→eq (get_or left1 i 0) (remainder_from (get_or table i 0) (zeros 8)) (at (right table) left1 tt i h)

step2 : (i : ℕ) → i < 256 → get_or left2 i 0 ≡ remainder_from (get_or left1 i 0) (zeros 8)
unfolding right remainder_from reduce
step2 i h = eqb→eq (get_or left2 i 0) (remainder_from (get_or left1 i 0) (zeros 8)) (at (right left1) left2 tt i h)

step3 : (i : ℕ) → i < 256 → get_or left3 i 0 ≡ remainder_from (get_or left2 i 0) (zeros 8)
unfolding right remainder_from reduce
step3 i h = eqb→eq (get_or left3 i 0) (remainder_from (get_or left2 i 0) (zeros 8)) (at (right left2) left3 tt i h)

step4 : (i : ℕ) → i < 256 → get_or left4 i 0 ≡ remainder_from (get_or left3 i 0) (zeros 8)
unfolding right remainder_from reduce
step4 i h = eqb→eq (get_or left4 i 0) (remainder_from (get_or left3 i 0) (zeros 8)) (at (right left3) left4 tt i h)

-- a byte more of zero bits
more : {t u : ℕ} (r n : ℕ) → u ≡ remainder_from t (zeros 8) → t ≡ remainder_from r (zeros n) → u ≡ remainder_from r (zeros n ++ zeros 8)
more {t} {u} r n e f = e ∙ ap (λ (x : ℕ). remainder_from x (zeros 8)) f ∙ sym (more_bits r (zeros n) (zeros 8))

pub rule1 : (i : ℕ) → i < 256 → get_or left1 i 0 ≡ remainder_from (i * 2 ^ 16) (zeros 16)
rule1 i h = more (i * 2 ^ 16) 8 (step1 i h) (entry_is i h)

pub rule2 : (i : ℕ) → i < 256 → get_or left2 i 0 ≡ remainder_from (i * 2 ^ 16) (zeros 24)
rule2 i h = more (i * 2 ^ 16) 16 (step2 i h) (rule1 i h)

pub rule3 : (i : ℕ) → i < 256 → get_or left3 i 0 ≡ remainder_from (i * 2 ^ 16) (zeros 32)
rule3 i h = more (i * 2 ^ 16) 24 (step3 i h) (rule2 i h)

pub rule4 : (i : ℕ) → i < 256 → get_or left4 i 0 ≡ remainder_from (i * 2 ^ 16) (zeros 40)
rule4 i h = more (i * 2 ^ 16) 32 (step4 i h) (rule3 i h)

-- ---- side by side

-- the bytes of a word, and zero bytes behind each
alone : (left : List ℕ) (n b : ℕ) → b < 256 → get_or left b 0 ≡ remainder_from (b * 2 ^ 16) (bits_of (zeros n)) → get_or left b 0 ≡ remainder (b ∷ 0 ∷ 0 ∷ zeros n)
alone left n b h e = e ∙ sym (one_byte b n h)

pub side_by_side : (x a b c d : ℕ) → a ≡ x / 2 ^ 24 % 2 ^ 8 → b ≡ x / 2 ^ 16 % 2 ^ 8 → c ≡ x / 2 ^ 8 % 2 ^ 8 → d ≡ x / 1 % 2 ^ 8
    → bit_xor (bit_xor (bit_xor (get_or left4 a 0) (get_or left3 b 0)) (get_or left2 c 0)) (get_or left1 d 0) ≡ remainder (bytes_of 4 x ++ zeros 4)
side_by_side x a b c d p q r s =
    let i : a < 256 = omega arith in
    let j : b < 256 = omega arith in
    let k : c < 256 = omega arith in
    let l : d < 256 = omega arith in
    let whole : (a ∷ b ∷ c ∷ d ∷ zeros 4) ≡ bytes_of 4 x ++ zeros 4 = cons p (cons q (cons r (cons s refl))) in
    xor_assoc (bit_xor (get_or left4 a 0) (get_or left3 b 0)) (get_or left2 c 0) (get_or left1 d 0)
    ∙ xor_assoc (get_or left4 a 0) (get_or left3 b 0) (bit_xor (get_or left2 c 0) (get_or left1 d 0))
    ∙ ap₂ bit_xor (alone left4 5 a i (rule4 a i))
    (ap₂ bit_xor (alone left3 4 b j (rule3 b j)) (ap₂ bit_xor (alone left2 3 c k (rule2 c k)) (alone left1 2 d l (rule1 d l))))
    ∙ sym (four_apart a b c d)
    ∙ ap remainder whole
