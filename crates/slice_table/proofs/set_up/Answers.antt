-- `slice_table::set_up` meets its contract: 7 or 8 with nothing touched, or the places emptied.
use mathlib.Core.Path.{ap, sym, ◌∙◌}
use mathlib.Core.List.{List}
use Rattle.slice_places.specs.declared.Place.{Place}
use Rattle.slice_table.specs.Tracks.{after}
use Rattle.slice_table.proofs.Ways.{set_on, set_off}
use Rattle.slice_table.proofs.set_up.Goals as goal

pub returns-then-is_ok : goal.returns-then-is_ok
returns-then-is_ok c =
    ap (λ (ps : List Place). after c.start-s.result.answer c.start-s.result.head ps) c.clear.ensures
    ∙ set_on c.args.places.now c.args.head c.args.site c.start-s.ensures (sym c.is_ok.ensures.value ∙ c.if-is_ok.true)

pub returns-else-is_ok : goal.returns-else-is_ok
returns-else-is_ok c = set_off c.args.places.now c.args.head c.args.site c.start-s.ensures (sym c.is_ok.ensures.value ∙ c.if-is_ok.false)
