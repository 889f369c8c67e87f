-- `positions::single_of` meets its contract: what it tests is what the definition tests, and by the law of Scaled counts of either size are counts of 2^17.
use mathlib.Core.Path.{◌≡◌, ap, ◌∙◌}
use mathlib.Core.Bool.{true, ◌&&◌}
use native.Mathlib.Omega.{arith}
use lib.Dec.{leb}
use mir.Facts.{to_z-of_z}
use mir.Syntax.{w32}
use Rattle.positions.specs.declared.Counts.{Counts}
use Rattle.positions.specs.Positions.{latitude_zones, all_round, fit, near_found}
use Rattle.signs.specs.Raised.{raised}
use Rattle.fields.proofs.Bools.{each}
use Rattle.positions.proofs.Signed.{tested, back}
use Rattle.positions.proofs.Scaled.{near_sized}
use Rattle.positions.proofs.single_of.Goals as goal

pub returns : goal.returns
returns g c =
    let a = c.args in
    let P = g.row.P in
    let w = c.raise-up.result in
    let up_is : w ≡ raised a.reference.latitude = c.raise-up.ensures ∙ ap raised (to_z-of_z {w = w32} {z = a.reference.latitude} (record { sfits = omega arith })) in
    let t = each (fit P a.counts) (leb 3221225472 w && leb w 5368709120) (rw (c.fits.ensures, c.pole_to_pole.ensures) at c.if-not-fits-pole_to_pole.false) in
    rw (t.0, tested a.reference.latitude w up_is true t.1)
    ((rw (back a.reference.latitude w up_is t.1) at c.single_raised.ensures)
    ∙ ap (λ (x : Counts). near_found 131072 (all_round a.turn (latitude_zones a.format)) a.reference x a.turn a.format) c.finer.ensures.0
    ∙ near_sized P c.requires a.reference a.counts a.turn a.format)
