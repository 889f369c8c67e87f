-- The words of a string, behind the bytes that whole words leave: a word is four bytes from its place on, and their number.
-- Assumes nothing.
use Prim.Native.Nat.{ℕ, zero, suc, ◌+◌, ◌*◌, ◌<◌}
use mathlib.Core.Path.{◌≡◌, refl, ap, ◌∙◌}
use mathlib.Core.List.{List, [], ◌∷◌}
use native.Mathlib.Omega.{arith}
use lib.ListN.{length, take, drop, get_or}
use Rattle.std.proofs.Common.{drop-drop}
use Rattle.std.specs.Int.{w32, from_be_bytes}
use Rattle.std.specs.Simd.{first_chunks}
use Rattle.fields.specs.Bytes.{number}

-- the word at k
pub word_at : (n k : ℕ) (s d : List ℕ) → k < n → get_or (first_chunks 4 n s) k d ≡ take 4 (drop (4 * k) s)
word_at zero k s d h = absurd (omega arith)
word_at (suc n) zero s d h = refl
word_at (suc n) (suc k) s d h =
    word_at n k (drop 4 s) d (omega arith)
    ∙ ap (take 4) (drop-drop (4 * k) 4 s ∙ ap (λ (m : ℕ). drop m s) (let e : 4 + 4 * k ≡ 4 * suc k = omega arith in e))

-- .. behind the first m bytes, and its number
pub word_behind : (n k m : ℕ) (s d : List ℕ) → k < n → get_or (first_chunks 4 n (drop m s)) k d ≡ take 4 (drop (m + 4 * k) s)
word_behind n k m s d h = word_at n k (drop m s) d h ∙ ap (take 4) (drop-drop (4 * k) m s)

pub word_number : (s : List ℕ) → length s ≡ 4 → from_be_bytes w32 s ≡ number s
word_number [] e = absurd (omega arith)
word_number (a ∷ []) e = absurd (omega arith)
word_number (a ∷ b ∷ []) e = absurd (omega arith)
word_number (a ∷ b ∷ c ∷ []) e = absurd (omega arith)
word_number (a ∷ b ∷ c ∷ d ∷ []) e = omega arith
word_number (a ∷ b ∷ c ∷ d ∷ f ∷ s) e = absurd (omega arith)
