-- `addercoil::spots::give_at` meets its contract: the two values are the spot's.
use native.Mathlib.Omega.{arith}
use mathlib.Core.Path.{◌∙◌}
use mir.Facts.{to_z-of_z}
use mir.Syntax.{w32}
use Rattle.addercoil.proofs.spots.give_at.Goals as goal

pub returns : goal.returns
returns c = c.give.ensures ∙ rw (c.twos_of-latitude.ensures, to_z-of_z {w = w32} {z = c.args.spot.latitude} (record { sfits = omega (arith, c.struct_told-1.given) }))
