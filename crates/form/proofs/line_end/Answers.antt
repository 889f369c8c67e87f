-- `form::line_end` meets its contract: by where the piece ends.
use Rattle.form.proofs.Walking.{line_past, line_there, line_none, next_line}
use Rattle.form.proofs.line_end.Goals as goal

pub returns-then-s-at : goal.returns-then-s-at
returns-then-s-at c =
    let p = next_line _ _ (line_past _ _ c.if-s-at.true) in
    record { value = p.0; next_line = p.1 }

pub returns-then-e-s : goal.returns-then-e-s
returns-then-e-s c =
    let e = c.piece_end-e.ensures in
    let p = next_line _ _ (line_there _ _ c.piece_end-e.result e c.if-e-s.true (e.stop c.if-e-s.true)) in
    record { value = p.0; next_line = p.1 }

pub returns-else-e-s : goal.returns-else-e-s
returns-else-e-s c =
    let p = next_line _ _ (line_none _ _ c.piece_end-e.result c.piece_end-e.ensures c.if-e-s.false) in
    record { value = p.0; next_line = p.1 }
