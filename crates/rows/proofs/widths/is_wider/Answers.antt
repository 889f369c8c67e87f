-- `rows::widths::is_wider` meets its contract: 1 moved up by fewer than 64 bits is a power of 2.
use Prim.Native.Nat.{ℕ}
use mathlib.Core.Path.{ap}
use lib.Dec.{leb}
use Rattle.rows.proofs.Cutting.{one_up}
use borrow.Author.Rules.{rules}
use Rattle.rows.proofs.widths.is_wider.Goals as goal

pub returns : goal.returns
returns c = let a = c.args in ap (λ (n : ℕ). leb n a.code) (one_up a.width (search rules))
