-- `compare::against` meets its contract: the header's line, and then the rows.
use mathlib.Core.Path.{ap}
use mathlib.Core.Bool.{not}
use Rattle.compare.proofs.Ways.{header_given, header_differs, header_same, within}
use Rattle.compare.proofs.against.Goals as goal

pub returns-in_err-ours : goal.returns-in_err-ours
returns-in_err-ours c = header_given _ _ c.requires c.header_of.ensures c.in_err-ours.was

pub slice_bounds-same-end : goal.slice_bounds-same-end
slice_bounds-same-end c = within _ c.line_end-end.ensures.next_line

pub returns-then-not-same : goal.returns-then-not-same
returns-then-not-same c =
    header_differs c.args.table.now c.args.bad c.requires c.header_of.ensures c.in_ok-ours.was c.args.theirs.now c.line_end-end.ensures.next_line c.as_bytes.ensures c.same.ensures (ap not c.if-not-same.true)

pub rows_compared-requires : goal.rows_compared-requires
rows_compared-requires c =
    (c.requires, within _ c.line_end-end.ensures.next_line)

pub returns : goal.returns
returns c =
    header_same c.args.table.now c.args.bad c.requires c.header_of.ensures c.in_ok-ours.was c.args.theirs.now c.line_end-end.ensures.next_line c.as_bytes.ensures c.same.ensures (ap not c.if-not-same.false) c.rows_compared.ensures
