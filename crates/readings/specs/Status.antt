-- RULES 5.11 and 16.3: operational status: the version of the standard, and the supplements that a version has. Versions 0 to 2 are published, 3 to 7 are reserved.
use Rattle.std.specs.Prelude.{ℕ, Bool, cond, ◌&&◌, leb, eqb, Option, Some, None}

abbrev pub is_published : ℕ → Bool
is_published v = leb v 2

-- supplement A stands in the status of versions 1 and 2, supplement C in that of version 2
abbrev pub has_a : ℕ → Bool
has_a v = leb 1 v && leb v 2

abbrev pub has_c : ℕ → Bool
has_c v = eqb v 2

-- supplement C is bit 20 of subtype 1, and 0 in subtype 0
abbrev pub bit_c : ℕ → ℕ → ℕ
bit_c subtype bit20 = cond (eqb subtype 1) bit20 0

-- what is read of a version, and of a supplement that a version has or has not, each by its own answers
abbrev pub version_by : {A : Type 0} → (number : ℕ → A) (reserved : A) → ℕ → A
version_by number reserved v = cond (is_published v) (number v) reserved

abbrev pub supplement_by : {A : Type 0} → (unknown : A) (bit : ℕ → A) → Bool → ℕ → A
supplement_by unknown bit has n = cond has (bit n) unknown

-- a version that is reserved has no number
abbrev pub version_of : ℕ → Option ℕ
version_of v = version_by Some None v

abbrev pub supplement_of : Bool → ℕ → Option ℕ
supplement_of has n = supplement_by None Some has n
