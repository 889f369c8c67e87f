-- `track_rows::tracks::kept_values` meets its contract: the numbers stand in the definition's order.
use mathlib.Core.Path.{ap, ◌∙◌}
use native.Mathlib.Omega.{arith}
use mir.Syntax.{w32}
use mir.Facts.{to_z-of_z}
use Rattle.entries.specs.Twos.{twos}
use Rattle.entries.specs.Means.{altitude_reading, step_reading}
use Rattle.track_rows.proofs.Laid.{keeps}
use Rattle.track_rows.proofs.tracks.kept_values.Goals as goal

pub returns : goal.returns
returns c =
    let a = c.args in
    let pressure = c.altitude_of-pressure.ensures in
    let height = c.altitude_of-height.ensures in
    rw (c.from.ensures, c.from-2.ensures, c.from-3.ensures, c.from-4.ensures, c.from-5.ensures, c.from-6.ensures, c.from-7.ensures, c.from-8.ensures)
    (keeps a.t _ _ _ _ _ _ _ _ _
    c.bit.ensures
    c.bit-2.ensures
    (c.twos_of.ensures ∙ ap twos (to_z-of_z {w = w32} {z = a.t.position.spot.latitude} (record { sfits = omega (arith, c.struct_told-1.given) })))
    c.bit-3.ensures
    c.bit-4.ensures
    (c.altitude_reading-altitude.ensures ∙ ap altitude_reading pressure)
    (c.step_reading-step.ensures ∙ ap step_reading pressure)
    (c.altitude_reading-gnss.ensures ∙ ap altitude_reading height)
    (c.step_reading-gnss_step.ensures ∙ ap step_reading height))
