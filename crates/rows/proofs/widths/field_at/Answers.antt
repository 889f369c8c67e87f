-- `rows::widths::field_at` meets its contract: 1 moved up by fewer than 64 bits is a power of 2.
use native.Mathlib.Omega.{arith}
use Prim.Native.Nat.{ℕ, ◌/◌, ◌%◌, ◌^◌}
use mathlib.Core.Path.{ap}
use lib.Pow.{pow_pos}
use Rattle.rows.proofs.Cutting.{one_up}
use borrow.Author.Rules.{rules}
use Rattle.rows.proofs.widths.field_at.Goals as goal

pub nonzero_rem-result : goal.nonzero_rem-result
nonzero_rem-result c = let w = c.args.width in omega (arith, one_up w (search rules), pow_pos w)

pub returns : goal.returns
returns c = let a = c.args in ap (λ (n : ℕ). a.me / 2 ^ a.below % n) (one_up a.width (search rules))
