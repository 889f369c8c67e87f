-- `agree::west` meets its contract: by the test.
use mathlib.Core.Path.{◌≡◌, ap, ◌∙◌}
use mathlib.Core.Bool.{true, false}
use lib.IntN.{pos}
use lib.Signed.{lt_z}
use mir.Syntax.{w64}
use mir.Facts.{to_z-of_z}
use Rattle.agree.specs.Near.{down}
use Rattle.agree.proofs.west.Goals as goal

pub returns-then-z-gt0 : goal.returns-then-z-gt0
returns-then-z-gt0 c =
    let e : lt_z (pos 0) c.args.z ≡ true = rw (to_z-of_z c.ranges.z) at c.if-z-gt0.true in
    to_z-of_z {w = w64} (record { sfits = c.down.type_inv }) ∙ c.down.ensures ∙ ap down (to_z-of_z c.ranges.z) ∙ rw e

pub returns-else-z-gt0 : goal.returns-else-z-gt0
returns-else-z-gt0 c =
    let e : lt_z (pos 0) c.args.z ≡ false = rw (to_z-of_z c.ranges.z) at c.if-z-gt0.false in
    rw e
