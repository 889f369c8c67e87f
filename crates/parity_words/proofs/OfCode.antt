-- Why parity may be split, of the code: what meets the contract of `remainder_of` is the remainder, so its laws are those of whatever the calculation gives.
-- Assumes nothing.
use Prim.Native.Nat.{ℕ}
use mathlib.Core.Path.{◌≡◌, sym, ap, ap₂, ◌∙◌}
use mathlib.Core.List.{List, ◌++◌}
use lib.ListN.{length}
use lib.Bits.{bit_xor}
use contract.Lifetimes.{Lfts}
use denote.Triple.Clauses.{AtExit}
use borrow.Fn.Kinds.{Dens, ended_of}
use Rattle.parity.specs.Division.{xor_all}
use Rattle.parity.specs.Parity.{remainder}
use Rattle.parity.proofs.Halves.{remainder_zeros, in_halves}
use Rattle.parity.specs.Strings.{zeros}
use Rattle.parity.proofs.Seal.{remainder_xor}
use Rattle.parity_words.proofs.remainder_of.Kinds as remainder-of-kinds
use Rattle.parity_words.proofs.remainder_of.Reads as remainder_of

-- `remainder_of` was lent the bytes s and answered r
pub record RemainderMet (s : List ℕ) (r : ℕ) : Type 0 where
  pub κs : Lfts 1
  pub args : Dens κs remainder-of-kinds.ps
  pub left : AtExit (ended_of 1 remainder-of-kinds.ps remainder-of-kinds.r) κs
  pub lent : args.0.now ≡ s
  pub meets : remainder_of.Post κs args r left

gives : {s : List ℕ} {r : ℕ} → RemainderMet s r → r ≡ remainder s
gives c = c.meets ∙ ap remainder c.lent

-- of the exclusive-or of two strings of one length: the exclusive-or of what the two gave
pub code_split : (xs ys : List ℕ) {p q r : ℕ} → length xs ≡ length ys → RemainderMet xs p → RemainderMet ys q → RemainderMet (xor_all xs ys) r → r ≡ bit_xor p q
code_split xs ys e a b c = gives c ∙ remainder_xor xs ys e ∙ ap₂ bit_xor (sym (gives a)) (sym (gives b))

-- of all-zero bytes: 0
pub code_zeros : (n : ℕ) {r : ℕ} → RemainderMet (zeros n) r → r ≡ 0
code_zeros n c = gives c ∙ remainder_zeros n

-- of a string: the exclusive-or of what its first half gave, with zero bytes for the second, and the second by itself
pub code_halves : (xs ys : List ℕ) {p q r : ℕ} → RemainderMet (xs ++ zeros (length ys)) p → RemainderMet ys q → RemainderMet (xs ++ ys) r → r ≡ bit_xor p q
code_halves xs ys a b c = gives c ∙ in_halves xs ys ∙ ap₂ bit_xor (sym (gives a)) (sym (gives b))
