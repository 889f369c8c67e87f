-- `agree::down` meets its contract: by the test.
use mathlib.Core.Path.{◌≡◌}
use mathlib.Core.Bool.{true, false}
use lib.IntN.{negsuc}
use lib.Signed.{lt_z}
use mir.Facts.{to_z-of_z}
use Rattle.agree.proofs.Steps.{down_fits}
use Rattle.agree.proofs.down.Goals as goal

pub overflow_sub-result : goal.overflow_sub-result
overflow_sub-result c =
    let below : lt_z (negsuc 4611686018427387903) c.args.z ≡ true = rw (to_z-of_z c.ranges.z) at c.if-z.true in
    rw (to_z-of_z c.ranges.z) (down_fits c.args.z below c.ranges.z)

pub returns-then-z : goal.returns-then-z
returns-then-z c =
    let below : lt_z (negsuc 4611686018427387903) c.args.z ≡ true = rw (to_z-of_z c.ranges.z) at c.if-z.true in
    rw (to_z-of_z c.ranges.z, to_z-of_z (down_fits c.args.z below c.ranges.z), below)

pub returns-else-z : goal.returns-else-z
returns-else-z c =
    let e : lt_z (negsuc 4611686018427387903) c.args.z ≡ false = rw (to_z-of_z c.ranges.z) at c.if-z.false in
    rw (to_z-of_z c.ranges.z, e)
