-- `agree::east` meets its contract: by the test.
use mathlib.Core.Path.{◌≡◌, ap, ◌∙◌}
use mathlib.Core.Bool.{true, false}
use lib.IntN.{pos}
use lib.Signed.{lt_z}
use mir.Syntax.{w64}
use mir.Facts.{to_z-of_z}
use Rattle.agree.specs.Near.{up}
use Rattle.agree.proofs.east.Goals as goal

pub returns-then-z-lt4294967295 : goal.returns-then-z-lt4294967295
returns-then-z-lt4294967295 c =
    let e : lt_z c.args.z (pos 4294967295) ≡ true = rw (to_z-of_z c.ranges.z) at c.if-z-lt4294967295.true in
    to_z-of_z {w = w64} (record { sfits = c.up.type_inv }) ∙ c.up.ensures ∙ ap up (to_z-of_z c.ranges.z) ∙ rw e

pub returns-else-z-lt4294967295 : goal.returns-else-z-lt4294967295
returns-else-z-lt4294967295 c =
    let e : lt_z c.args.z (pos 4294967295) ≡ false = rw (to_z-of_z c.ranges.z) at c.if-z-lt4294967295.false in
    rw e
