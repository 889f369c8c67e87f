-- `rows::widths::packed` meets its contract: what is left to pack behind the fields that the loop has passed is the same all the way.
use Prim.Native.Nat.{ℕ, ◌+◌, ◌-◌, ◌^◌, ◌<◌}
use mathlib.Core.Path.{sym, ap, subst⁻¹, ◌∙◌}
use native.Mathlib.Omega.{arith}
use lib.ListN.{drop}
use lib.Pow.{pow_pos}
use Rattle.fields.specs.Packing.{total}
use Rattle.rows.proofs.Cutting.{left, left_first, small, total_next, refuses, me_next, me_fits, left_more, left_none}
use Rattle.rows.proofs.widths.packed.Goals as goal

pub loop-i-init : goal.loop-i-init
loop-i-init c = (omega arith, omega (arith, c.requires.1), pow_pos (56 - total c.args.widths.now), left_first c.args.fields.now c.args.widths.now)

pub is_wider-requires : goal.is_wider-requires
is_wider-requires c =
    small c.args.widths.now c.loop-i.i c.from-width.result c.loop-i-test.true c.from-width.ensures c.loop-i.invariant.1

pub returns-then-is_wider : goal.returns-then-is_wider
returns-then-is_wider c =
    let a = c.args in
    refuses a.widths.now a.fields.now c.loop-i.i c.loop-i.me c.from-width.result c.entry-code.result c.loop-i-test.true c.from-width.ensures c.entry-code.ensures c.loop-i.invariant.1
    (sym c.is_wider.ensures ∙ c.if-is_wider.true) c.loop-i.invariant.3

pub behind-me-requires : goal.behind-me-requires
behind-me-requires c =
    let a = c.args in (
      small a.widths.now c.loop-i.i c.from-width.result c.loop-i-test.true c.from-width.ensures c.loop-i.invariant.1,
      me_fits a.widths.now a.fields.now c.loop-i.i c.loop-i.me c.from-width.result c.entry-code.result c.loop-i-test.true c.from-width.ensures c.entry-code.ensures c.loop-i.invariant.1
          (sym c.is_wider.ensures ∙ c.if-is_wider.false) c.loop-i.invariant.2,
    )

pub loop-i-smaller : goal.loop-i-smaller
loop-i-smaller c = omega (arith, c.loop-i-test.true)

pub loop-i-preserved : goal.loop-i-preserved
loop-i-preserved c =
    let a = c.args in
    let ws = a.widths.now in
    let h = c.loop-i-test.true in
    let f = sym c.is_wider.ensures ∙ c.if-is_wider.false in (
      omega (arith, h),
      total_next ws a.fields.now c.loop-i.i c.loop-i.me c.from-width.result c.entry-code.result h c.from-width.ensures c.entry-code.ensures c.loop-i.invariant.1,
      subst⁻¹ (λ (n : ℕ). n < 2 ^ (56 - total (drop (c.loop-i.i + 1) ws))) c.behind-me.ensures
          (me_next ws a.fields.now c.loop-i.i c.loop-i.me c.from-width.result c.entry-code.result h c.from-width.ensures c.entry-code.ensures c.loop-i.invariant.1 f c.loop-i.invariant.2),
      left_more ws a.fields.now c.loop-i.i c.loop-i.me c.from-width.result c.entry-code.result h c.from-width.ensures c.entry-code.ensures c.loop-i.invariant.1 f c.loop-i.invariant.2 c.loop-i.invariant.3
          ∙ ap (λ (n : ℕ). left a.fields.now n (5 + (c.loop-i.i + 1)) (drop (c.loop-i.i + 1) ws)) (sym c.behind-me.ensures),
    )

pub returns : goal.returns
returns c =
    let a = c.args in
    left_none a.widths.now a.fields.now c.loop-i.i c.loop-i.me (omega (arith, c.loop-i-test.false, c.loop-i.invariant.0)) c.loop-i.invariant.3
