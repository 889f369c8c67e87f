-- `parity_words::seal_by` meets its contract: the seal of the remainder's three bytes is what three zero bytes leave of them.
use Prim.Native.Nat.{ℕ, ◌/◌, ◌%◌, ◌^◌}
use mathlib.Core.Path.{◌≡◌, ap, ◌∙◌}
use mathlib.Core.List.{List, [], ◌∷◌, ◌++◌}
use native.Mathlib.Omega.{arith}
use lib.ListN.{get_or}
use Rattle.fields.specs.Bytes.{bytes_of}
use Rattle.parity.specs.Parity.{remainder, seal}
use Rattle.parity_words.proofs.seal_by.Goals as goal

pub returns : goal.returns
unfolding seal
returns c =
    let r = c.args.remainder in
    let e : r % 256 ≡ r / 1 % 2 ^ 8 = omega arith in
    c.remainder_of.ensures
    ∙ ap (λ (l : List ℕ). remainder (get_or l 1 0 ∷ get_or l 2 0 ∷ get_or l 3 0 ∷ 0 ∷ 0 ∷ 0 ∷ [])) c.to_be_bytes.ensures
    ∙ ap (λ (b : ℕ). remainder (r / 2 ^ 16 % 2 ^ 8 ∷ r / 2 ^ 8 % 2 ^ 8 ∷ b ∷ 0 ∷ 0 ∷ 0 ∷ [])) e
