-- `report::row::row_from` meets its contract: each figure is the definition's.
use mathlib.Core.Path.{ap, ◌∙◌}
use Rattle.report.specs.Listing.{feet, step_in}
use Rattle.report.proofs.row.row_from.Goals as goal

pub returns : goal.returns
returns c =
    let altitude = c.altitude_of-altitude.ensures in
    rw (
      c.latitude_in.ensures,
      c.longitude_in.ensures,
      c.feet.ensures ∙ ap feet altitude,
      c.step_in.ensures ∙ ap step_in altitude,
    )
