-- RULES 5.3: the category set of a TYPE, the character of a code, and the text of eight characters.
use Rattle.std.specs.Prelude.{ℕ, ◌+◌, ◌-◌, cond, ◌&&◌, List, [], ◌∷◌, leb, eqb, replicate, Option, Some, None, Result, Ok, Err}
use Rattle.refusals.specs.declared.Refusal.TheVariants.{Field}
use Rattle.fields.specs.Packing.{unpack, wider}
use Rattle.fields.specs.Bytes.{number}
use Rattle.characters.specs.declared.CategorySet.{CategorySet}
use Rattle.characters.specs.declared.CategorySet.TheVariants as set
use Rattle.refusals.specs.declared.Refusal.{Refusal}

-- TYPE 4, 3, 2, 1 is category set A, B, C, D; any other has none
abbrev pub set_by : {S : Type 0} → (a b c d none : S) (type : ℕ) → S
set_by a b c d none type =
    cond (eqb type 4) a
    (cond (eqb type 3) b
    (cond (eqb type 2) c
    (cond (eqb type 1) d
    none)))

unfoldable pub set_at : ℕ → Option CategorySet
set_at type = set_by (Some set.A) (Some set.B) (Some set.C) (Some set.D) None type

unfoldable pub category_set_of : ℕ → Result (Option CategorySet) Refusal
category_set_of type = cond (wider 5 type) (Err Field) (Ok (set_at type))

-- codes 1-26 are A-Z, 32 space, 48-57 digits; the rest show as "?" (here in ASCII: A is 65, space 32, 0 is 48, ? is 63)
unfoldable pub shown : ℕ → ℕ
shown code =
    cond (leb 1 code && leb code 26) (65 + (code - 1))
    (cond (eqb code 32) 32
    (cond (leb 48 code && leb code 57) (48 + (code - 48))
    63))

unfoldable pub character_of : ℕ → Result ℕ Refusal
character_of code = cond (wider 6 code) (Err Field) (Ok (shown code))

-- each code's character
abbrev pub shown_all : List ℕ → List ℕ
shown_all [] = []
shown_all (code ∷ codes) = shown code ∷ shown_all codes

-- eight characters of 6 bits, the first the highest
abbrev pub eight_shown : ℕ → List ℕ
eight_shown characters = shown_all (unpack (replicate 8 6) characters)

-- .. as the number of their eight bytes
unfoldable pub text_at : ℕ → ℕ
text_at characters = number (eight_shown characters)

unfoldable pub text_of : ℕ → Result ℕ Refusal
text_of characters = cond (wider 48 characters) (Err Field) (Ok (text_at characters))
