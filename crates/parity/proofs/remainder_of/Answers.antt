-- `parity::remainder_of` meets its contract: up to three bytes are their own remainder, and more are taken in two parts.
use Prim.Native.Nat.{ℕ, ◌-◌, ◌%◌, ◌^◌}
use mathlib.Core.Path.{◌≡◌, ap, ap₂, ◌∙◌}
use mathlib.Core.List.{List}
use native.Mathlib.Omega.{arith}
use lib.ListN.{length, drop, length-drop}
use lib.Bits.{bit_xor}
use Rattle.fields.specs.Bytes.{number, Bytes}
use Rattle.fields.proofs.Bytes.{bytes_drop}
use Rattle.parity.specs.Parity.{remainder, seal}
use Rattle.parity.proofs.Seal.{short, number_short, remainder_below, by_parts}
use Rattle.parity.proofs.remainder_of.Goals as goal

pub overflow_cast-result : goal.overflow_cast-result
overflow_cast-result c =
    let s = c.args.s.now in
    omega (arith, c.number_of.ensures ∙ number_short s (λ i. omega (arith, c.type_inv.s i)) (omega arith), remainder_below s)

pub returns-then-n-lt3 : goal.returns-then-n-lt3
returns-then-n-lt3 c =
    c.number_of.ensures ∙ number_short c.args.s.now (λ i. omega (arith, c.type_inv.s i)) (omega arith)

-- the last three bytes
last : (s : List ℕ) (l : List ℕ) (n : ℕ) → Bytes s → l ≡ drop (length s - 3) s → n ≡ number l % 2 ^ 64 → n ≡ remainder (drop (length s - 3) s)
last s l n h e f =
    let k : ℕ = length s - 3 in
    f ∙ ap (λ (x : List ℕ). number x % 2 ^ 64) e ∙ number_short (drop k s) (bytes_drop k s h) (omega (arith, length-drop k s))

pub overflow_cast-result-2 : goal.overflow_cast-result-2
overflow_cast-result-2 c =
    let s = c.args.s.now in
    omega (arith, last s _ _ (λ i. omega (arith, c.type_inv.s i)) c.split_at.ensures.back c.number_of-2.ensures, remainder_below (drop (length s - 3) s))

pub returns : goal.returns
returns c =
    let s = c.args.s.now in
    let h : Bytes s = λ i. omega (arith, c.type_inv.s i) in
    let k : ℕ = length s - 3 in
    ap₂ bit_xor
    (c.seal_of.ensures ∙ ap seal c.split_at.ensures.front)
    (last s _ _ h c.split_at.ensures.back c.number_of-2.ensures ∙ short (drop k s) (bytes_drop k s h) (omega (arith, length-drop k s)))
    ∙ by_parts s k h (omega arith)
