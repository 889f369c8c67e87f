-- `parity_words::remainder_of` meets its contract: the bytes passed have the remainder of the four bytes of x.
use Prim.Native.Nat.{ℕ, ◌+◌, ◌*◌, ◌/◌, ◌%◌, ◌^◌, ◌<◌}
use mathlib.Core.Path.{◌≡◌, sym, ap, ◌∙◌}
use mathlib.Core.List.{List, ◌++◌}
use native.Mathlib.Omega.{arith}
use lib.ListN.{length, take, drop, get_or, length-drop}
use lib.Seq.{take_all, take-add, length-take-le}
use lib.Bits.{bit_xor}
use Rattle.std.specs.Int.{w32, from_be_bytes}
use Rattle.fields.specs.Bytes.{number, bytes_of, Bytes}
use Rattle.fields.proofs.Bytes.{bytes_take, bytes_drop}
use Rattle.parity.specs.Parity.{remainder}
use Rattle.parity.proofs.Seal.{number_short, remainder_below}
use Rattle.parity_words.proofs.Parts.{word_behind, word_number}
use Rattle.parity_words.proofs.Words.{four_alone, word_more, last_word}
use Rattle.parity_words.proofs.remainder_of.Goals as goal

-- the bytes that whole words leave
front : (s l : List ℕ) (n : ℕ) → Bytes s → l ≡ take (length s % 4) s → n ≡ number l % 2 ^ 64 → n ≡ remainder (take (length s % 4) s)
front s l n h e f =
    let k : ℕ = length s % 4 in
    f ∙ ap (λ (x : List ℕ). number x % 2 ^ 64) e ∙ number_short (take k s) (bytes_take k s h) (omega (arith, length-take-le k s (omega arith)))

pub overflow_cast-x : goal.overflow_cast-x
overflow_cast-x c =
    let s = c.args.s.now in
    omega (arith, front s _ _ (λ i. omega (arith, c.type_inv.s i)) c.as_rchunks.ensures.front c.number_of-x.ensures, remainder_below (take (length s % 4) s))

pub loop-word-init : goal.loop-word-init
loop-word-init c =
    let s = c.args.s.now in
    let k : ℕ = length s % 4 in
    let x = c.number_of-x.result in
    let f : x ≡ remainder (take k s) = front s _ _ (λ i. omega (arith, c.type_inv.s i)) c.as_rchunks.ensures.front c.number_of-x.ensures in
    ap (λ (i : ℕ). remainder (take i s)) (let e : k + 4 * 0 ≡ k = omega arith in e)
    ∙ sym f
    ∙ sym (four_alone x (omega (arith, f, remainder_below (take k s))))

pub loop-word-preserved : goal.loop-word-preserved
loop-word-preserved c =
    let s = c.args.s.now in
    let h : Bytes s = λ i. omega (arith, c.type_inv.s i) in
    let m : ℕ = length s % 4 in
    let k = c.loop-word.word-index in
    let i : ℕ = m + 4 * k in
    let ws : List ℕ = take 4 (drop i s) in
    let j : k < length s / 4 = omega (arith, c.as_rchunks.ensures.back_len) in
    let long : length ws ≡ 4 = length-take-le 4 (drop i s) (omega (arith, length-drop i s)) in
    let e : take (m + 4 * (k + 1)) s ≡ take i s ++ ws = ap (λ (n : ℕ). take n s) (let q : m + 4 * (k + 1) ≡ i + 4 = omega arith in q) ∙ take-add i 4 s in
    let w : c.from_be_bytes.result ≡ number ws =
    c.from_be_bytes.ensures
    ∙ ap (from_be_bytes w32) (ap (λ (l : List (List ℕ)). get_or l k _) c.as_rchunks.ensures.back ∙ word_behind (length s / 4) k m s _ j)
    ∙ word_number ws long in
    ap remainder e
    ∙ word_more (take i s) ws c.loop-word.x c.turned.result c.loop-word.invariant c.turned.ensures long (bytes_take 4 (drop i s) (bytes_drop i s h))
    ∙ ap (λ (n : ℕ). remainder (bytes_of 4 (bit_xor c.turned.result n))) (sym w)

pub returns : goal.returns
returns c =
    let s = c.args.s.now in
    let x = c.loop-word.x in
    ap (λ (q : ℕ). bit_xor q (x % 256)) c.step.ensures
    ∙ last_word x (omega arith)
    ∙ sym c.loop-word.invariant
    ∙ ap remainder (take_all (length s % 4 + 4 * c.loop-word.word-index) s (omega (arith, c.as_rchunks.ensures.back_len)))
