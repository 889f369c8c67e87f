-- `positions::latitude_out` meets its contract: rounding one turn up is rounding, one turn up.
use Prim.Native.Nat.{ℕ, ◌*◌}
use mathlib.Core.Path.{sym, ap, ◌∙◌}
use native.Mathlib.Omega.{arith}
use lib.IntN.{sub_ℕ}
use mir.Facts.{to_z-of_z}
use mir.Syntax.{w32}
use Rattle.positions.proofs.Naturals.{rounded_is, rounded_low, rounded_high}
use Rattle.positions.proofs.latitude_out.Goals as goal

pub lower-requires : goal.lower-requires
lower-requires c =
    let a = c.args in
    rw c.nearest.ensures (rounded_low a.up (a.n * 131072) (omega arith) (omega arith), rounded_high a.up (a.n * 131072) (omega arith) (omega arith))

pub returns : goal.returns
returns c =
    let a = c.args in
    to_z-of_z {w = w32} (record { sfits = c.lower.type_inv }) ∙ c.lower.ensures ∙ ap (λ (x : ℕ). sub_ℕ x 4294967296) c.nearest.ensures
    ∙ sym (rounded_is a.up (a.n * 131072) (omega arith))
