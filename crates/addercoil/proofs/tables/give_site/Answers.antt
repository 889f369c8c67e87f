-- `addercoil::tables::give_site` meets its contract: the three values are the site's.
use native.Mathlib.Omega.{arith}
use mathlib.Core.Path.{◌∙◌}
use mir.Facts.{to_z-of_z}
use mir.Syntax.{w32}
use Rattle.addercoil.proofs.tables.give_site.Goals as goal

pub returns : goal.returns
returns c = c.give.ensures ∙ rw (c.bit-known.ensures, c.twos_of-latitude.ensures, to_z-of_z {w = w32} {z = c.args.site.spot.latitude} (record { sfits = omega (arith, c.struct_told-1.given) }))
