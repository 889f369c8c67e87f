-- `text::numbers::put_digit` meets its contract: the digit, stored.
use Prim.Native.Nat.{ℕ}
use mathlib.Core.Path.{ap}
use mathlib.Core.List.{[], ◌∷◌}
use Rattle.text.proofs.Buffer.{wrote_as}
use Rattle.text.proofs.numbers.put_digit.Goals as goal

pub returns : goal.returns
returns c = wrote_as c.put_byte.ensures (ap (λ (x : ℕ). x ∷ []) c.hex_digit.ensures)
