-- `positions::longitude_out` meets its contract, which is its formula. The cast loses nothing: a zone of n and a count are short of a turn.
use Prim.Native.Nat.{◌+◌, ◌*◌}
use mathlib.Core.Path.{sym, ◌∙◌}
use native.Mathlib.Omega.{arith}
use Rattle.positions.proofs.Naturals.{rounded_turn_lem}
use Rattle.positions.proofs.Short.{never_a_turn}
use Rattle.positions.proofs.longitude_out.Goals as goal

pub overflow_cast-result : goal.overflow_cast-result
overflow_cast-result c =
    let a = c.args in
    let out = rounded_turn_lem (a.n * 131072) (a.zone.0 * 131072 + a.count.0) in
    omega (arith, c.nearest.ensures, out, never_a_turn 131072 a.n a.zone.0 a.count.0 (omega arith) (omega arith) (omega arith))

pub returns : goal.returns
returns c =
    let a = c.args in
    c.nearest.ensures ∙ sym (rounded_turn_lem (a.n * 131072) (a.zone.0 * 131072 + a.count.0))
