-- `positions::near_spot` meets its contract: each part is the one that the definition names.
use mathlib.Core.Path.{◌∙◌}
use native.Mathlib.Omega.{arith}
use mir.Facts.{to_z-of_z}
use mir.Syntax.{w32}
use Rattle.positions.proofs.Answers.{near_spot_lem}
use Rattle.positions.proofs.near_spot.Goals as goal

pub returns : goal.returns
returns c =
    let a = c.args in
    near_spot_lem a.up a.z a.n a.longitude c.near_longitude_zone.result.0 a.count.0 (omega arith) (omega arith) c.near_longitude_zone.ensures.0
    (to_z-of_z {w = w32} (record { sfits = c.latitude_out-latitude.type_inv }) ∙ c.latitude_out-latitude.ensures)
    c.longitude_out-near.ensures
