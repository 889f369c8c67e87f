-- `agree::up` meets its contract: by the test.
use mathlib.Core.Path.{◌≡◌}
use mathlib.Core.Bool.{true, false}
use lib.IntN.{pos}
use lib.Signed.{lt_z}
use mir.Facts.{to_z-of_z}
use Rattle.agree.proofs.Steps.{up_fits}
use Rattle.agree.proofs.up.Goals as goal

pub overflow_add-result : goal.overflow_add-result
overflow_add-result c =
    let below : lt_z c.args.z (pos 4611686018427387904) ≡ true = rw (to_z-of_z c.ranges.z) at c.if-z-lt4611686018427387904.true in
    rw (to_z-of_z c.ranges.z) (up_fits c.args.z below c.ranges.z)

pub returns-then-z-lt4611686018427387904 : goal.returns-then-z-lt4611686018427387904
returns-then-z-lt4611686018427387904 c =
    let below : lt_z c.args.z (pos 4611686018427387904) ≡ true = rw (to_z-of_z c.ranges.z) at c.if-z-lt4611686018427387904.true in
    rw (to_z-of_z c.ranges.z, to_z-of_z (up_fits c.args.z below c.ranges.z), below)

pub returns-else-z-lt4611686018427387904 : goal.returns-else-z-lt4611686018427387904
returns-else-z-lt4611686018427387904 c =
    let e : lt_z c.args.z (pos 4611686018427387904) ≡ false = rw (to_z-of_z c.ranges.z) at c.if-z-lt4611686018427387904.false in
    rw (to_z-of_z c.ranges.z, e)
