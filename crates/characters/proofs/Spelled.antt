-- Eight bytes, put together in two halves, are the number that the eight make.
-- Assumes nothing.
use Prim.Native.Nat.{ℕ, ◌+◌, ◌*◌, ◌/◌, ◌%◌}
use mathlib.Core.Path.{◌≡◌, ◌∙◌}
use mathlib.Core.List.{[], ◌∷◌}
use native.Mathlib.Omega.{arith}
use lib.ListN.{replicate}
use Rattle.fields.specs.Packing.{unpack}
use Rattle.fields.specs.Bytes.{number}
use Rattle.characters.specs.Text.{shown, shown_all}

eight : (a b c d e f g h : ℕ)
    → (a * 0x1000000 + b * 0x10000 + c * 0x100 + d) * 0x100000000 + (e * 0x1000000 + f * 0x10000 + g * 0x100 + h) ≡ number (a ∷ b ∷ c ∷ d ∷ e ∷ f ∷ g ∷ h ∷ [])
eight a b c d e f g h = omega arith

-- the text of eight codes, character by character
pub spelled : (n : ℕ) {a b c d e f g h : ℕ}
    → a ≡ shown (n / 0x40000000000 % 64)
    → b ≡ shown (n / 0x1000000000 % 64)
    → c ≡ shown (n / 0x40000000 % 64)
    → d ≡ shown (n / 0x1000000 % 64)
    → e ≡ shown (n / 0x40000 % 64)
    → f ≡ shown (n / 0x1000 % 64)
    → g ≡ shown (n / 64 % 64)
    → h ≡ shown (n / 1 % 64)
    → (a * 0x1000000 + b * 0x10000 + c * 0x100 + d) * 0x100000000 + (e * 0x1000000 + f * 0x10000 + g * 0x100 + h) ≡ number (shown_all (unpack (replicate 8 6) n))
spelled n {a} {b} {c} {d} {e} {f} {g} {h} ea eb ec ed ee ef eg eh = eight a b c d e f g h ∙ rw (ea, eb, ec, ed, ee, ef, eg, eh)
