-- The division is linear: the remainder of an exclusive-or is the exclusive-or of the remainders, at every length. One bit is
-- `reduce`, by the two cases of its term x^24; the bits follow by induction, and the bytes by their bits.
-- Assumes nothing.
use Prim.Native.Nat.{ℕ, zero, suc, ◌+◌, ◌-◌, ◌*◌, ◌/◌, ◌%◌, ◌^◌, ◌<◌, ◌≤◌}
use mathlib.Core.Path.{◌≡◌, refl, sym, ap, ap₂, subst, ◌∙◌}
use mathlib.Core.Bool.{Bool, true, false}
use mathlib.Core.List.{List, [], ◌∷◌, ◌++◌, append_assoc}
use native.Mathlib.Nat.{mod-lt}
use native.Mathlib.Omega.{arith}
use lib.Dec.{ltb, lit<}
use lib.ListN.{length, length-replicate}
use lib.Bits.{bit_xor, xor_block, xor_lt, xor_comm, xor_shr, xor_mod, xor_zero_l}
use borrow.Author.Tests.{ltb-true, ltb-false, lt-ltb, le-ltb}
use Rattle.fields.specs.Packing.{unpack}
use Rattle.parity.specs.Division.{reduce, remainder_from, bits_of, xor_all}
use Rattle.parity.proofs.Xor.{swap, twice}
use Rattle.parity.specs.Strings.{Bits, zeros}

-- ---- one step

G : ℕ
G = 0xFFF409

pub low : (x : ℕ) → x < 2 ^ 24 → reduce x ≡ x
unfolding reduce
low x h = rw (lt-ltb x (2 ^ 24) h)

high : (x : ℕ) → reduce (1 * 2 ^ 24 + x) ≡ bit_xor x G
unfolding reduce G
high x =
    let e : 1 * 2 ^ 24 + x - 2 ^ 24 ≡ x = omega arith in
    rw (le-ltb (1 * 2 ^ 24 + x) (2 ^ 24) (omega arith)) (ap (λ (y : ℕ). bit_xor y 0xFFF409) e)

reduce_hl : (x y : ℕ) → x < 2 ^ 24 → y < 2 ^ 24 → reduce (bit_xor (1 * 2 ^ 24 + x) y) ≡ bit_xor (reduce (1 * 2 ^ 24 + x)) (reduce y)
reduce_hl x y hx hy =
    let e : y ≡ 0 * 2 ^ 24 + y = omega arith in
    ap reduce (ap (bit_xor (1 * 2 ^ 24 + x)) e ∙ xor_block 24 1 0 x y hx hy)
    ∙ high (bit_xor x y) ∙ swap x y G ∙ ap₂ bit_xor (sym (high x)) (sym (low y hy))

reduce_hh : (x y : ℕ) → x < 2 ^ 24 → y < 2 ^ 24 → reduce (bit_xor (1 * 2 ^ 24 + x) (1 * 2 ^ 24 + y)) ≡ bit_xor (reduce (1 * 2 ^ 24 + x)) (reduce (1 * 2 ^ 24 + y))
reduce_hh x y hx hy =
    let e : 0 * 2 ^ 24 + bit_xor x y ≡ bit_xor x y = omega arith in
    ap reduce (xor_block 24 1 1 x y hx hy ∙ e)
    ∙ low (bit_xor x y) (xor_lt 24 x y hx hy) ∙ twice x y G ∙ ap₂ bit_xor (sym (high x)) (sym (high y))

-- a polynomial of 25 bits is below x^24, or x^24 and one below
data Two : ℕ → Type 0 where
  below : {x : ℕ} → x < 2 ^ 24 → Two x
  above : {x : ℕ} → x < 2 ^ 24 → Two (1 * 2 ^ 24 + x)

two : (x : ℕ) → x < 2 ^ 25 → Two x
two x h = go (ltb x (2 ^ 24)) refl
  where
    go : (t : Bool) → ltb x (2 ^ 24) ≡ t → Two x
    go true e = below (ltb-true x (2 ^ 24) e)
    go false e =
        let g : 2 ^ 24 ≤ x = ltb-false x (2 ^ 24) e in
        let q : 1 * 2 ^ 24 + (x - 2 ^ 24) ≡ x = omega arith in
        subst Two q (above (omega arith))

reduce_cases : {x y : ℕ} → Two x → Two y → reduce (bit_xor x y) ≡ bit_xor (reduce x) (reduce y)
reduce_cases (below {x = x} p) (below {x = y} q) = low (bit_xor x y) (xor_lt 24 x y p q) ∙ ap₂ bit_xor (sym (low x p)) (sym (low y q))
reduce_cases (above {x = x} p) (below {x = y} q) = reduce_hl x y p q
reduce_cases (below {x = x} p) (above {x = y} q) =
    ap reduce (xor_comm x (1 * 2 ^ 24 + y)) ∙ reduce_hl y x q p ∙ xor_comm (reduce (1 * 2 ^ 24 + y)) (reduce x)
reduce_cases (above {x = x} p) (above {x = y} q) = reduce_hh x y p q

reduce_below : {x : ℕ} → Two x → reduce x < 2 ^ 24
unfolding G
reduce_below (below {x = x} p) = rw (low x p) p
reduce_below (above {x = x} p) = rw (high x) (xor_lt 24 x G p (lit< tt))

-- ---- bits

pub below_24 : (r : ℕ) (bs : List ℕ) → r < 2 ^ 24 → Bits bs → remainder_from r bs < 2 ^ 24
unfolding remainder_from
below_24 r [] h g = h
below_24 r (b ∷ bs) h g =
    let b2 : b < 2 = g.0 in
    below_24 (reduce (2 * r + b)) bs (reduce_below (two (2 * r + b) (omega arith))) g.1

pub linear : (bs cs : List ℕ) (r s : ℕ) → length bs ≡ length cs → r < 2 ^ 24 → s < 2 ^ 24 → Bits bs → Bits cs
    → remainder_from (bit_xor r s) (xor_all bs cs) ≡ bit_xor (remainder_from r bs) (remainder_from s cs)
unfolding remainder_from
linear [] [] r s e hr hs f g = refl
linear [] (c ∷ cs) r s e hr hs f g = let z : ⊥ = omega arith in absurd z
linear (b ∷ bs) [] r s e hr hs f g = let z : ⊥ = omega arith in absurd z
linear (b ∷ bs) (c ∷ cs) r s e hr hs f g =
    let b2 : b < 2 = f.0 in
    let c2 : c < 2 = g.0 in
    let e₁ : 2 * r + b ≡ r * 2 ^ 1 + b = omega arith in
    let e₂ : 2 * s + c ≡ s * 2 ^ 1 + c = omega arith in
    let e₃ : 2 * bit_xor r s + bit_xor b c ≡ bit_xor r s * 2 ^ 1 + bit_xor b c = omega arith in
    let t₁ = two (2 * r + b) (omega arith) in
    let t₂ = two (2 * s + c) (omega arith) in
    let x : 2 * bit_xor r s + bit_xor b c ≡ bit_xor (2 * r + b) (2 * s + c) =
    e₃ ∙ sym (xor_block 1 r s b c b2 c2) ∙ sym (ap₂ bit_xor e₁ e₂) in
    ap (λ (w : ℕ). remainder_from w (xor_all bs cs)) (ap reduce x ∙ reduce_cases t₁ t₂)
    ∙ linear bs cs (reduce (2 * r + b)) (reduce (2 * s + c)) (omega arith) (reduce_below t₁) (reduce_below t₂) f.1 g.1

-- more bits: the division goes on from what is left
pub more_bits : (r : ℕ) (xs ys : List ℕ) → remainder_from r (xs ++ ys) ≡ remainder_from (remainder_from r xs) ys
unfolding remainder_from
more_bits r [] ys = refl
more_bits r (x ∷ xs) ys = more_bits (reduce (2 * r + x)) xs ys

-- ---- bytes

pub bits_bits : (s : List ℕ) → Bits (bits_of s)
bits_bits [] = tt
bits_bits (b ∷ bs) =
    let m : (n : ℕ) → n % 2 < 2 = λ n. mod-lt n (lit< tt) in
    (m _, (m _, (m _, (m _, (m _, (m _, (m _, (m _, bits_bits bs))))))))

bits_append : (xs ys : List ℕ) → bits_of (xs ++ ys) ≡ bits_of xs ++ bits_of ys
bits_append [] ys = refl
bits_append (x ∷ xs) ys =
    let b : List ℕ = unpack (1 ∷ 1 ∷ 1 ∷ 1 ∷ 1 ∷ 1 ∷ 1 ∷ 1 ∷ []) x in
    ap (λ (l : List ℕ). b ++ l) (bits_append xs ys) ∙ sym (append_assoc b (bits_of xs) (bits_of ys))

pub more_bytes : (r : ℕ) (xs ys : List ℕ) → remainder_from r (bits_of (xs ++ ys)) ≡ remainder_from (remainder_from r (bits_of xs)) (bits_of ys)
more_bytes r xs ys = ap (remainder_from r) (bits_append xs ys) ∙ more_bits r (bits_of xs) (bits_of ys)

-- a bit of an exclusive-or
bit : (x y k : ℕ) → bit_xor x y / 2 ^ k % 2 ≡ bit_xor (x / 2 ^ k % 2) (y / 2 ^ k % 2)
bit x y k = ap (λ (n : ℕ). n % 2) (xor_shr x y k) ∙ xor_mod (x / 2 ^ k) (y / 2 ^ k) 1

pub cons : {x y : ℕ} {xs ys : List ℕ} → x ≡ y → xs ≡ ys → x ∷ xs ≡ y ∷ ys
cons p q = ap₂ (λ (d : ℕ) (ds : List ℕ). d ∷ ds) p q

pub bits_xor : (xs ys : List ℕ) → length xs ≡ length ys → bits_of (xor_all xs ys) ≡ xor_all (bits_of xs) (bits_of ys)
bits_xor [] [] e = refl
bits_xor [] (y ∷ ys) e = let z : ⊥ = omega arith in absurd z
bits_xor (x ∷ xs) [] e = let z : ⊥ = omega arith in absurd z
bits_xor (x ∷ xs) (y ∷ ys) e =
    let b = bit x y in
    cons (b 7) (cons (b 6) (cons (b 5) (cons (b 4) (cons (b 3) (cons (b 2) (cons (b 1) (cons (b 0) (bits_xor xs ys (omega arith)))))))))

pub bits_length : (xs ys : List ℕ) → length xs ≡ length ys → length (bits_of xs) ≡ length (bits_of ys)
bits_length [] [] e = refl
bits_length [] (y ∷ ys) e = let z : ⊥ = omega arith in absurd z
bits_length (x ∷ xs) [] e = let z : ⊥ = omega arith in absurd z
bits_length (x ∷ xs) (y ∷ ys) e = omega (arith, bits_length xs ys (omega arith))

-- ---- what bits more do to the remainder: they add what they leave by themselves

bits_zeros : (n : ℕ) → Bits (zeros n)
bits_zeros zero = tt
bits_zeros (suc n) = (lit< tt, bits_zeros n)

pub zeros_xor : (bs : List ℕ) → xor_all (zeros (length bs)) bs ≡ bs
zeros_xor [] = refl
zeros_xor (b ∷ bs) = cons (xor_zero_l b) (zeros_xor bs)

pub added : (bs : List ℕ) (r s : ℕ) → r < 2 ^ 24 → s < 2 ^ 24 → Bits bs
    → remainder_from (bit_xor r s) bs ≡ bit_xor (remainder_from r (zeros (length bs))) (remainder_from s bs)
added bs r s hr hs g =
    ap (remainder_from (bit_xor r s)) (sym (zeros_xor bs)) ∙ linear (zeros (length bs)) bs r s (length-replicate (length bs) 0) hr hs (bits_zeros (length bs)) g
