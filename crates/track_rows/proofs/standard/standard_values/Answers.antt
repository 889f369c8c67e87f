-- `track_rows::standard::standard_values` meets its contract: the numbers stand in the definition's order.
use mathlib.Core.Path.{ap, ◌∙◌}
use Rattle.track_rows.specs.Standard.{version_number, supplement_bits, integrity_reading}
use Rattle.track_rows.proofs.Laid.{standing}
use Rattle.track_rows.proofs.standard.standard_values.Goals as goal

pub returns : goal.returns
returns c =
    let a = c.args in
    standing a.kind a.t c.version_number-v.result c.supplement_bits-s.result c.integrity_reading-r.result
    (c.version_number-v.ensures ∙ ap version_number c.version_of.ensures)
    (c.supplement_bits-s.ensures ∙ ap supplement_bits c.supplements_of.ensures)
    (c.integrity_reading-r.ensures ∙ ap integrity_reading c.integrity_of.ensures)
