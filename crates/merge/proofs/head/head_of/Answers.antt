-- `merge::head::head_of` meets its contract: its fields, the number of its lines, and the comparison with the header of these.
use native.Mathlib.Omega.{arith}
use mathlib.Core.Path.{ap, ◌∙◌}
use Rattle.form.specs.Form.{same}
use Rattle.form.specs.Scan.{part}
use Rattle.merge.proofs.Heads.{end_high, headed}
use Rattle.merge.proofs.head.head_of.Goals as goal

pub count-tracks-requires : goal.count-tracks-requires
count-tracks-requires c = end_high _ c.line_end-end.ensures.next_line

pub returns : goal.returns
returns c =
    let n = c.count-tracks.ensures in
    headed c.args.s.now c.line_end-end.ensures.next_line n.0 (omega (arith, n.1)) c.field_in-clock.ensures c.field_in-middle.ensures c.field_in-bad.ensures c.header_line-line.ensures c.in_form.ensures (c.same.ensures ∙ ap (same (part 0 c.line_end-end.result c.args.s.now)) c.as_bytes.ensures)
