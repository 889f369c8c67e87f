-- `merge::lines::put_lines` meets its contract: the lines passed are in the buffer, and with the rest they are the whole text.
use borrow.Author.Rules.{rules}
use Prim.Native.Nat.{ℕ, ◌+◌}
use mathlib.Core.Path.{refl, sym, ap, ◌∙◌}
use mathlib.Core.List.{[], ◌++◌}
use native.Mathlib.Omega.{arith}
use borrow.Author.Tests.{not-true, not-false}
use Rattle.text.proofs.Buffer.{wrote_none, wrote_then, wrote_as}
use Rattle.form.specs.Scan.{part}
use Rattle.merge.proofs.Walking.{part_length, nothing_left, line_left, joined_end, joined_on, room_on}
use Rattle.merge.proofs.lines.put_lines.Goals as goal

pub loop-line-init : goal.loop-line-init
loop-line-init c =
    let p = c.requires in
    let a = c.args in
    (p.0, p.1, refl, omega (arith, p.2), ([], (wrote_none a.out.now a.from, refl)))

pub next_line-line-requires : goal.next_line-line-requires
next_line-line-requires c = (omega arith, omega arith)

pub returns-then-not-line : goal.returns-then-not-line
returns-then-not-line c =
    let w = c.loop-line.invariant.4 in
    wrote_as w.1.0 (sym (joined_end (nothing_left c.next_line-line.ensures (not-true _ c.if-not-line.true)) w.0) ∙ w.1.1)

pub put_part-middle-requires : goal.put_part-middle-requires
put_part-middle-requires c =
    let t = line_left c.next_line-line.ensures (not-false _ c.if-not-line.false) in
    (t.low_i, t.high_i, omega (arith, t.low_i, t.high_i, c.loop-line.invariant.3))

pub put_part-at-requires : goal.put_part-at-requires
put_part-at-requires c =
    let t = line_left c.next_line-line.ensures (not-false _ c.if-not-line.false) in
    let a = c.args in
    let n = part_length a.a.now c.loop-line.i c.next_line-line.result.i t.low_i t.high_i in
    (t.low_j, t.high_j, omega (arith, t.low_i, t.high_i, t.low_j, t.high_j, n, c.put_part-middle.ensures.next, c.loop-line.invariant.3))

pub loop-line-smaller : goal.loop-line-smaller
loop-line-smaller c =
    let t = line_left c.next_line-line.ensures (not-false _ c.if-not-line.false) in
    omega (arith, t.more, t.low_i, t.low_j, t.high_i, t.high_j)

pub loop-line-preserved : goal.loop-line-preserved
loop-line-preserved c =
    let t = line_left c.next_line-line.ensures (not-false _ c.if-not-line.false) in
    let a = c.args in
    let r = c.next_line-line.result in
    let w = c.loop-line.invariant.4 in
    let p = part c.loop-line.i r.i a.a.now in
    let q = part c.loop-line.j r.j a.b.now in
    let m = part_length a.a.now c.loop-line.i r.i t.low_i t.high_i in
    let n = part_length a.b.now c.loop-line.j r.j t.low_j t.high_j in (
      t.high_i,
      t.high_j,
      search rules,
      room_on c.loop-line.at (search rules) t.low_i t.high_i t.low_j t.high_j (c.put_part-middle.ensures.next ∙ ap (λ (k : ℕ). c.loop-line.at + k) m) (c.put_part-at.ensures.next ∙ ap (λ (k : ℕ). c.put_part-middle.result + k) n) c.loop-line.invariant.3,
      ((w.0 ++ p) ++ q, (wrote_then (wrote_then w.1.0 c.put_part-middle.ensures) c.put_part-at.ensures, joined_on t.first p q t.text w.0 ∙ w.1.1)),
    )
