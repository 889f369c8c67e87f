-- `parity_words::tables::turned` meets its contract: each byte by its own table.
use Prim.Native.Nat.{ℕ}
use mathlib.Core.Path.{ap, ◌∙◌}
use mathlib.Core.List.{List}
use native.Mathlib.Omega.{arith}
use lib.ListN.{get_or}
use Rattle.parity_words.proofs.Entries.{side_by_side}
use Rattle.parity_words.proofs.tables.turned.Goals as goal

pub returns : goal.returns
returns c =
    let at = λ (i : ℕ). ap (λ (l : List ℕ). get_or l i 0) c.to_be_bytes.ensures in
    side_by_side c.args.x c.from.result c.from-2.result c.from-3.result c.from-4.result
    (omega (arith, c.from.ensures ∙ at 0))
    (omega (arith, c.from-2.ensures ∙ at 1))
    (omega (arith, c.from-3.ensures ∙ at 2))
    (omega (arith, c.from-4.ensures ∙ at 3))
