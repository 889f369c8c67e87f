-- `track_rows::shown::shown_values` meets its contract: the numbers stand in the definition's order.
use mathlib.Core.Path.{ap, ap₂, ◌∙◌}
use mathlib.Core.Bool.{Bool, false}
use Rattle.track_rows.specs.Shown.{row_in, named, moving, on_ground, taxiing, going, is_saved}
use Rattle.track_rows.proofs.Laid.{shows}
use Rattle.track_rows.proofs.shown.shown_values.Goals as goal

pub returns : goal.returns
returns c =
    let a = c.args in
    let served = c.is_traffic-traffic.ensures in
    let surface = c.row_in-surface.ensures ∙ ap (λ (z : Bool). row_in false z a.t.groups.surface) served in
    let velocity = c.row_in-velocity.ensures ∙ ap₂ (λ (x y : Bool). row_in x y a.t.groups.velocity) c.is_coarse.ensures served in
    shows a.kind a.t c.named_by-n.result c.moving_by-m.result c.ground_by-o.result c.taxiing_by-s.result c.going_by-a.result
    (c.named_by-n.ensures ∙ ap named (c.row_in.ensures ∙ ap (λ (z : Bool). row_in false z a.t.groups.identification) served))
    (c.moving_by-m.ensures ∙ ap₂ moving served velocity)
    (c.ground_by-o.ensures ∙ ap (on_ground (is_saved a.t)) surface)
    (c.taxiing_by-s.ensures ∙ ap taxiing surface)
    (c.going_by-a.ensures ∙ ap going velocity)
