-- What the words ask for, case by case: none for the tracks with a position, "all" alone for all, and anything else for nothing.
-- Assumes nothing.
use Prim.Native.Nat.{ℕ, ◌<◌}
use mathlib.Core.Path.{◌≡◌, refl}
use mathlib.Core.Bool.{false}
use mathlib.Core.List.{List, [], ◌∷◌}
use native.Mathlib.Omega.{arith}
use borrow.Author.Tests.{lt-ltb, le-ltb, ne_eqb}
use Rattle.listing.specs.declared.words.Asked.TheVariants.{Positioned, All, Unclear}
use Rattle.listing.specs.Words.{is_all, asked_by}

-- the program's name may be missing too
pub no_word : (count : ℕ) (word : List ℕ) → count < 2 → asked_by count word ≡ Positioned
unfolding asked_by
no_word count word h = rw (lt-ltb count 2 h)

pub all_word : asked_by 2 (97 ∷ 108 ∷ 108 ∷ []) ≡ All
unfolding asked_by is_all
all_word = refl

pub other_word : (word : List ℕ) → is_all word ≡ false → asked_by 2 word ≡ Unclear
unfolding asked_by
other_word word h = rw h

pub second_word : (count : ℕ) (word : List ℕ) → 2 < count → asked_by count word ≡ Unclear
unfolding asked_by
second_word count word h = rw (le-ltb count 2 (omega arith), ne_eqb count 2 (λ e. omega arith))
