-- `positions::pair_latitude_zone` meets its contract: 60 z zones up the numerator is never below zero, and the remainder by z is the same.
use mathlib.Core.Path.{sym, ◌∙◌}
use native.Mathlib.Omega.{arith}
use Rattle.positions.proofs.Naturals.{pair_zone_is}
use Rattle.positions.proofs.pair_latitude_zone.Goals as goal

pub returns : goal.returns
returns c =
    let a = c.args in
    (c.zone_by.ensures.0 ∙ sym (pair_zone_is 131072 60 a.z a.even.0 a.odd.0 (omega arith) (omega arith) (omega arith)), c.zone_by.ensures.1)
