-- `merge::merge` meets its contract: a buffer of a wrong length, texts that cannot be one, or both as one.
use mathlib.Core.Path.{sym, ◌∙◌}
use native.Mathlib.Omega.{arith}
use Rattle.merge.proofs.Ways.{wrong_length, no_one, heads_apart, keys_apart, sums_fit, header_room, line_length, both_one}
use Rattle.merge.proofs.merge.Goals as goal

pub returns-then-out-a : goal.returns-then-out-a
returns-then-out-a c = wrong_length _ _ _ (λ e. omega (arith, e, c.if-out-a.true))

pub returns-then-out-a-2 : goal.returns-then-out-a-2
returns-then-out-a-2 c = wrong_length _ _ _ (λ e. c.if-out-a-2.true (omega (arith, e)))

pub returns-then-not-are_one : goal.returns-then-not-are_one
returns-then-not-are_one c =
    no_one _ _ _ (omega (arith, c.if-out-a-2.false, c.if-out-a.false)) (heads_apart c.head_of-x.ensures c.head_of-y.ensures (sym c.are_one.ensures ∙ c.if-not-are_one.true))

pub rise-requires : goal.rise-requires
rise-requires c = (c.head_of-x.ensures.high, c.head_of-y.ensures.high)

pub returns-then-not-rise : goal.returns-then-not-rise
returns-then-not-rise c =
    no_one _ _ _ (omega (arith, c.if-out-a-2.false, c.if-out-a.false)) (keys_apart c.head_of-x.ensures c.head_of-y.ensures (sym c.rise.ensures ∙ c.if-not-rise.true))

pub overflow_add-x : goal.overflow_add-x
overflow_add-x c =
    omega (arith, c.head_of-x.ensures.few, c.head_of-y.ensures.few, c.if-out-a-2.false, c.if-out-a.false)

pub overflow_add-x-2 : goal.overflow_add-x-2
overflow_add-x-2 c =
    omega (arith, sums_fit c.head_of-x.ensures c.head_of-y.ensures (sym c.are_one.ensures ∙ c.if-not-are_one.false))

pub put_lines-requires : goal.put_lines-requires
put_lines-requires c =
    let p = c.head_of-x.ensures in
    let q = c.head_of-y.ensures in
    let e = sym c.are_one.ensures ∙ c.if-not-are_one.false in
    (p.high, q.high, omega (arith, p.high, q.high, header_room p q e, line_length _ c.header_line-line.ensures, c.if-out-a-2.false, c.if-out-a.false))

pub returns : goal.returns
returns c =
    let p = c.head_of-x.ensures in
    let q = c.head_of-y.ensures in
    let e = sym c.are_one.ensures ∙ c.if-not-are_one.false in
    let k = sym c.rise.ensures ∙ c.if-not-rise.false in
    both_one p q c.args.out.now (omega (arith, c.if-out-a-2.false, c.if-out-a.false)) e k c.header_line-line.ensures c.as_bytes.ensures c.fill_bytes.ensures c.put_lines.ensures
