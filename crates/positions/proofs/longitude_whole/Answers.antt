-- `positions::longitude_whole` meets its contract, which is its formula.
use Prim.Native.Nat.{◌*◌}
use mathlib.Core.Path.{sym, ap, ◌∙◌}
use lib.IntN.{pos}
use Rattle.positions.proofs.Naturals.{whole_pos}
use Rattle.positions.proofs.longitude_whole.Goals as goal

pub returns : goal.returns
returns c =
    let a = c.args in
    whole_pos (4 * a.q) a.n a.longitude ∙ ap pos (sym c.nearest.ensures)
