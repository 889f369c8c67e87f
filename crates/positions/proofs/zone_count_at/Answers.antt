-- `positions::zone_count_at` meets its contract: the distance from the equator comes to the table's unit, and the search there is the zone count.
use Prim.Native.Nat.{ℕ, ◌*◌}
use mathlib.Core.Path.{sym, ap, ◌∙◌}
use native.Mathlib.Omega.{arith}
use lib.IntN.{sub_ℕ}
use Rattle.positions.specs.Code.{edges}
use Rattle.positions.specs.Zones.{first}
use Rattle.positions.proofs.Latitudes.{zone_count_is, some_units, all_units, units_fit, zoned_most}
use Rattle.positions.proofs.Shift.{abs_is}
use Rattle.positions.proofs.zone_count_at.Goals as goal

pub overflow_cast-z : goal.overflow_cast-z
overflow_cast-z c = omega (arith, zoned_most c.args.n c.requires.0)

pub overflow_cast-up : goal.overflow_cast-up
overflow_cast-up c = omega (arith, zoned_most c.args.n c.requires.0)

pub overflow_mul-z : goal.overflow_mul-z
overflow_mul-z c = omega (arith, zoned_most c.args.n c.requires.0)

pub overflow_mul-k : goal.overflow_mul-k
overflow_mul-k c =
    rw c.abs_diff-a.ensures (omega (arith, units_fit c.args.n c.units_in.result c.units_in.ensures c.args.up c.requires.1))

pub returns : goal.returns
returns c =
    let a = c.args in
    let M : ℕ = a.n * 131072 in (
      c.zone_count.ensures.0
          ∙ ap (λ (x : ℕ). first 59 edges x 1) c.from.ensures
          ∙ ap (λ (x : ℕ). first 59 edges (x * c.units_in.result) 1) (c.abs_diff-a.ensures ∙ sym (abs_is a.up M))
          ∙ sym (zone_count_is M c.units_in.result (some_units a.n c.units_in.result c.units_in.ensures) (all_units a.n c.units_in.result c.units_in.ensures) (sub_ℕ a.up M)),
      c.zone_count.ensures.1,
    )
