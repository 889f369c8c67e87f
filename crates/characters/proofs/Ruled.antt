-- Answers at which a likely slip would show: each is computed from the definitions.
-- Assumes nothing.
use Rattle.std.specs.Prelude.{Some, None, Ok, Err}
use Prim.Native.Nat.{◌^◌}
use mathlib.Core.Path.{◌≡◌, refl}
use Rattle.refusals.specs.declared.Refusal.TheVariants.{Field}
use Rattle.characters.specs.Text.{category_set_of, set_at, character_of, shown, text_of, text_at}
use Rattle.characters.specs.declared.CategorySet.TheVariants as set

-- TYPE 1 is set D, and TYPE 5, no identification, has none
pub last_set : (category_set_of 1 ≡ Ok (Some set.D)) × (category_set_of 5 ≡ Ok None)
unfolding category_set_of set_at
last_set = (refl, refl)

-- code 0 and code 27 are no letters
pub no_letters : (character_of 0 ≡ Ok 63) × (character_of 27 ≡ Ok 63)
unfolding character_of shown
no_letters = (refl, refl)

-- code 0 is no letter, and 49 bits are refused
pub no_text : (text_of 0 ≡ Ok 0x3F3F3F3F3F3F3F3F) × (text_of (2 ^ 48) ≡ Err Field)
unfolding text_of text_at shown
no_text = (refl, refl)
