-- The table's rule, at all of its entries by one computed test, and the step by a byte that it serves: the low 16 bits move up, and the
-- high 8 leave what zero bits after them leave.
-- Assumes nothing.
use Prim.Native.Nat.{ℕ, zero, suc, ◌+◌, ◌*◌, ◌/◌, ◌%◌, ◌^◌, ◌<◌}
use mathlib.Core.Path.{◌≡◌, refl, sym, ap, ap₂, ◌∙◌}
use mathlib.Core.Bool.{Bool}
use mathlib.Core.List.{List, [], ◌∷◌}
use native.Mathlib.Nat.{mod-eq_of_lt, mul-add-mod_self_right}
use native.Mathlib.Omega.{arith}
use lib.Dec.{eqb, eqb→eq, lit<}
use lib.ListN.{length, get_or}
use lib.Bits.{bit_xor, xor_comm, xor_shifted, xor_lt, xor_mod, xor_shr, xor_zero_r}
use Rattle.fields.specs.Bytes.{Bytes}
use Rattle.fields.proofs.Tables.{at}
use Rattle.parity.specs.Division.{reduce, remainder_from, bits_of, stepped}
use Rattle.parity.specs.Code.{table}
use Rattle.parity.proofs.Linear.{bits_bits, added}
use Rattle.parity.proofs.Small.{small, bits_number}
use Rattle.parity.specs.Strings.{bit_value}

-- ---- the table

right : ℕ → ℕ → Bool
right k x = eqb x (remainder_from (k * 2 ^ 16) (bits_of (0 ∷ [])))

pub entry_is : (i : ℕ) → i < 256 → get_or table i 0 ≡ remainder_from (i * 2 ^ 16) (bits_of (0 ∷ []))
unfolding right remainder_from reduce
entry_is i h = eqb→eq (get_or table i 0) (remainder_from (i * 2 ^ 16) (bits_of (0 ∷ []))) (at right table tt i h)

-- ---- a byte at a time

-- one byte, as a string
one : (b : ℕ) → b < 256 → Bytes (b ∷ [])
one b h zero = h
one b h (suc i) = lit< tt

byte_value : (b : ℕ) → b < 256 → bit_value (bits_of (b ∷ [])) ≡ b
byte_value b h = bits_number (b ∷ []) (one b h) ∙ omega arith

small_byte : (bs : List ℕ) (s b : ℕ) → length bs ≡ 8 → bit_value bs ≡ b → s < 2 ^ 16 → b < 256 → remainder_from s bs ≡ s * 256 + b
small_byte bs s b e v hs hb =
    let p : s * 2 ^ length bs ≡ s * 256 = ap (λ (k : ℕ). s * 2 ^ k) e in
    small bs s (omega arith) ∙ omega arith

-- what a byte more leaves: the low 16 bits move up, and the high 8 come back as zero bits after them leave them
pub by_table : (r b : ℕ) → r < 2 ^ 24 → b < 256 → remainder_from r (bits_of (b ∷ [])) ≡ bit_xor (r % 2 ^ 16 * 256 + b) (remainder_from (r / 2 ^ 16 * 2 ^ 16) (bits_of (0 ∷ [])))
by_table r b hr hb =
    let hi : ℕ = r / 2 ^ 16 * 2 ^ 16 in
    let lo : ℕ = r % 2 ^ 16 in
    let e : r ≡ bit_xor hi lo = sym (xor_shifted (r / 2 ^ 16) 16 lo (omega arith) ∙ omega arith) in
    ap (λ (x : ℕ). remainder_from x (bits_of (b ∷ []))) e
    ∙ added (bits_of (b ∷ [])) hi lo (omega arith) (omega arith) (bits_bits (b ∷ []))
    ∙ ap (bit_xor (remainder_from hi (bits_of (0 ∷ [])))) (small_byte (bits_of (b ∷ [])) lo b refl (byte_value b hb) (omega arith) hb)
    ∙ xor_comm (remainder_from hi (bits_of (0 ∷ []))) (lo * 256 + b)

-- the step by the table
pub step_is : (r b : ℕ) → r < 2 ^ 24 → b < 256 → bit_xor (r % 2 ^ 16 * 256) (get_or table (bit_xor (r / 2 ^ 16) b) 0) ≡ stepped r b
unfolding stepped
step_is r b hr hb =
    let x : ℕ = bit_xor r (b * 2 ^ 16) in
    let lo : x % 2 ^ 16 ≡ r % 2 ^ 16 =
    xor_mod r (b * 2 ^ 16) 16 ∙ ap (bit_xor (r % 2 ^ 16)) (let z : b * 2 ^ 16 % 2 ^ 16 ≡ 0 = omega arith in z) ∙ xor_zero_r (r % 2 ^ 16) in
    let hi : x / 2 ^ 16 ≡ bit_xor (r / 2 ^ 16) b =
    xor_shr r (b * 2 ^ 16) 16 ∙ ap (bit_xor (r / 2 ^ 16)) (let z : b * 2 ^ 16 / 2 ^ 16 ≡ b = omega arith in z) in
    let i : bit_xor (r / 2 ^ 16) b < 256 = xor_lt 8 (r / 2 ^ 16) b (omega arith) hb in
    sym (by_table x 0 (xor_lt 24 r (b * 2 ^ 16) hr (omega arith)) (lit< tt)
    ∙ ap₂ bit_xor
    (let e : x % 2 ^ 16 * 256 + 0 ≡ x % 2 ^ 16 * 256 = omega arith in e ∙ ap (λ (y : ℕ). y * 256) lo)
    (ap (λ (y : ℕ). remainder_from (y * 2 ^ 16) (bits_of (0 ∷ []))) hi ∙ sym (entry_is (bit_xor (r / 2 ^ 16) b) i)))

-- the low 24 bits are all that the code reads
pub step_low : (r b : ℕ) → b < 256 → bit_xor (r % 2 ^ 16 * 256) (get_or table (bit_xor (r / 2 ^ 16 % 256) b) 0) ≡ stepped (r % 2 ^ 24) b
step_low r b h =
    let lo : r % 2 ^ 16 ≡ r % 2 ^ 24 % 2 ^ 16 = omega arith in
    let up : r / 2 ^ 16 ≡ r / 2 ^ 24 * 256 + r % 2 ^ 24 / 2 ^ 16 = omega arith in
    let hi : r / 2 ^ 16 % 256 ≡ r % 2 ^ 24 / 2 ^ 16 =
    ap (λ (x : ℕ). x % 256) up ∙ mul-add-mod_self_right (r / 2 ^ 24) 256 (r % 2 ^ 24 / 2 ^ 16) ∙ mod-eq_of_lt (omega arith) in
    ap₂ (λ (x y : ℕ). bit_xor (x * 256) (get_or table (bit_xor y b) 0)) lo hi ∙ step_is (r % 2 ^ 24) b (omega arith) h
