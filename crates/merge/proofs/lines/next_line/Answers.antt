-- `merge::lines::next_line` meets its contract: by which of the texts has a line left, and by the keys.
use mathlib.Core.Path.{refl, ap, ◌∙◌}
use native.Mathlib.Omega.{arith}
use mathlib.Core.Logic.{inl}
use Rattle.form.proofs.Walking.{no_line, some_line}
use Rattle.merge.specs.Merged.{key_in}
use Rattle.merge.proofs.Walking.{line_part, none_left, second_alone, first_alone, first_lower, second_lower, takes_first, takes_second}
use Rattle.merge.proofs.lines.next_line.Goals as goal

pub returns-then-f-eq0 : goal.returns-then-f-eq0
returns-then-f-eq0 c =
    inl (refl, none_left (no_line _ _ c.line_end-e.ensures.next_line c.if-e-eq0.true) (no_line _ _ c.line_end-f.ensures.next_line c.if-f-eq0.true))

pub slice_bounds-key_in-count : goal.slice_bounds-key_in-count
slice_bounds-key_in-count c =
    let p = some_line _ _ c.line_end-f.ensures.next_line c.if-f-eq0.false in
    omega (arith, p.low, p.high)

pub slice_bounds-key_in-start : goal.slice_bounds-key_in-start
slice_bounds-key_in-start c =
    let p = some_line _ _ c.line_end-f.ensures.next_line c.if-f-eq0.false in
    omega (arith, p.low, p.high)

pub slice_bounds-key_in-end : goal.slice_bounds-key_in-end
slice_bounds-key_in-end c =
    let p = some_line _ _ c.line_end-f.ensures.next_line c.if-f-eq0.false in
    omega (arith, p.low, p.high)

pub returns-then-e-eq0 : goal.returns-then-e-eq0
returns-then-e-eq0 c =
    let p = some_line _ _ c.line_end-f.ensures.next_line c.if-f-eq0.false in
    takes_second p refl c.requires.0 c.key_in.ensures refl (second_alone (no_line _ _ c.line_end-e.ensures.next_line c.if-e-eq0.true) p.first)

pub slice_bounds-key_in-count-2 : goal.slice_bounds-key_in-count-2
slice_bounds-key_in-count-2 c =
    let p = some_line _ _ c.line_end-e.ensures.next_line c.if-e-eq0.false in
    omega (arith, p.low, p.high)

pub slice_bounds-key_in-start-2 : goal.slice_bounds-key_in-start-2
slice_bounds-key_in-start-2 c =
    let p = some_line _ _ c.line_end-e.ensures.next_line c.if-e-eq0.false in
    omega (arith, p.low, p.high)

pub slice_bounds-key_in-end-2 : goal.slice_bounds-key_in-end-2
slice_bounds-key_in-end-2 c =
    let p = some_line _ _ c.line_end-e.ensures.next_line c.if-e-eq0.false in
    omega (arith, p.low, p.high)

pub returns-then-f-eq0-2 : goal.returns-then-f-eq0-2
returns-then-f-eq0-2 c =
    let p = some_line _ _ c.line_end-e.ensures.next_line c.if-e-eq0.false in
    takes_first p refl c.requires.1 c.key_in-first.ensures refl (first_alone p.first (no_line _ _ c.line_end-f.ensures.next_line c.if-f-eq0-2.true))

pub slice_bounds-key_in-count-3 : goal.slice_bounds-key_in-count-3
slice_bounds-key_in-count-3 c =
    let p = some_line _ _ c.line_end-f.ensures.next_line c.if-f-eq0-2.false in
    omega (arith, p.low, p.high)

pub slice_bounds-key_in-start-3 : goal.slice_bounds-key_in-start-3
slice_bounds-key_in-start-3 c =
    let p = some_line _ _ c.line_end-f.ensures.next_line c.if-f-eq0-2.false in
    omega (arith, p.low, p.high)

pub slice_bounds-key_in-end-3 : goal.slice_bounds-key_in-end-3
slice_bounds-key_in-end-3 c =
    let p = some_line _ _ c.line_end-f.ensures.next_line c.if-f-eq0-2.false in
    omega (arith, p.low, p.high)

pub returns-then-first-second : goal.returns-then-first-second
returns-then-first-second c =
    let p = some_line _ _ c.line_end-e.ensures.next_line c.if-e-eq0.false in
    let q = some_line _ _ c.line_end-f.ensures.next_line c.if-f-eq0-2.false in
    let k = c.key_in-first.ensures ∙ ap key_in (line_part p) in
    let m = c.key_in-second.ensures ∙ ap key_in (line_part q) in
    takes_first p refl c.requires.1 c.key_in-first.ensures refl (first_lower p.first q.first (omega (arith, k, m, c.if-first-second.true)))

pub returns : goal.returns
returns c =
    let p = some_line _ _ c.line_end-e.ensures.next_line c.if-e-eq0.false in
    let q = some_line _ _ c.line_end-f.ensures.next_line c.if-f-eq0-2.false in
    let k = c.key_in-first.ensures ∙ ap key_in (line_part p) in
    let m = c.key_in-second.ensures ∙ ap key_in (line_part q) in
    takes_second q refl c.requires.0 c.key_in-second.ensures refl (second_lower p.first q.first (omega (arith, k, m, c.if-first-second.false)))
