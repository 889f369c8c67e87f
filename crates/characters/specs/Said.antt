-- RULES 5.3 and 19.3: what the answers say in the rules' terms: a number, or the category set, or the characters in ASCII.
use Rattle.std.specs.Prelude.{ℕ, List, Option, Some, None, Result, Ok, Err}
use Rattle.refusals.specs.Numbers.{number_of}
use Rattle.refusals.specs.Said.{Said, number, gives}
use Rattle.fields.specs.Bytes.{bytes_of}
use Rattle.characters.specs.Text.{set_by, eight_shown}
use Rattle.characters.specs.declared.CategorySet.{CategorySet}
use Rattle.characters.specs.declared.CategorySet.TheVariants as set
use Rattle.refusals.specs.declared.Refusal.{Refusal}

-- a category set; none of a TYPE that is no identification
pub data SetName : Type 0 where
  A B C D none : SetName

abbrev pub category_set_said : Result (Option CategorySet) Refusal → Said SetName
category_set_said (Ok (Some set.A)) = gives A
category_set_said (Ok (Some set.B)) = gives B
category_set_said (Ok (Some set.C)) = gives C
category_set_said (Ok (Some set.D)) = gives D
category_set_said (Ok None) = gives none
category_set_said (Err r) = number (number_of r)

abbrev pub character_said : Result ℕ Refusal → Said ℕ
character_said (Ok n) = gives n
character_said (Err r) = number (number_of r)

-- the eight characters, in their order
abbrev pub text_said : Result ℕ Refusal → Said (List ℕ)
text_said (Ok n) = gives (bytes_of 8 n)
text_said (Err r) = number (number_of r)

-- ---- what is due of a code that fits its bits; of a character it is `shown`

abbrev pub set_means : ℕ → SetName
set_means type = set_by A B C D none type

abbrev pub text_means : ℕ → List ℕ
text_means characters = eight_shown characters
