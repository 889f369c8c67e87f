-- `table::step_at` meets its contract: a step by the frame and a store, with the site that the head has.
use mathlib.Core.Path.{ap₂, ap, ◌∙◌}
use mathlib.Core.Bool.{Bool}
use Rattle.whereabouts.specs.declared.Site.{Site}
use Rattle.track.specs.Track.{step_me}
use Rattle.table_bytes.specs.Layout.{stored}
use Rattle.table.proofs.step_at.Goals as goal

pub returns : goal.returns
returns c =
    let a = c.args in
    c.store.ensures
    ∙ ap (stored a.table.now a.n a.i a.key)
    (c.step_me.ensures ∙ ap₂ (λ (k : Bool) (x : Site). step_me a.t k a.f.me x a.time) c.frame_coarse-coarse.ensures c.site_of-site.ensures)
