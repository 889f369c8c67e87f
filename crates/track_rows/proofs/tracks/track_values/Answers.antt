-- `track_rows::tracks::track_values` meets its contract: three parts of the array, each filled, are the row.
use mathlib.Core.List.{[]}
use Rattle.track_rows.proofs.Laid.{second_within, third_within, joined}
use Rattle.track_rows.proofs.tracks.track_values.Goals as goal

pub slice_bounds-row-end-2 : goal.slice_bounds-row-end-2
slice_bounds-row-end-2 c = second_within c.kept_values-kept.result [] [] c.fill.new.out [] [] c.fill.ensures

pub slice_bounds-row-end-3 : goal.slice_bounds-row-end-3
slice_bounds-row-end-3 c =
    third_within c.kept_values-kept.result c.shown_values-shown.result [] c.fill.new.out c.fill-2.new.out [] c.fill.ensures c.fill-2.ensures

pub returns : goal.returns
returns c =
    let a = c.args in
    joined c.kept_values-kept.result c.shown_values-shown.result c.standard_values-standard.result
    c.fill.new.out c.fill-2.new.out c.fill-3.new.out a.key a.t c.kind_in-kind.result
    c.kind_in-kind.ensures c.kept_values-kept.ensures c.shown_values-shown.ensures c.standard_values-standard.ensures
    c.fill.ensures c.fill-2.ensures c.fill-3.ensures
