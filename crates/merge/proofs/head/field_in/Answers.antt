-- `merge::head::field_in` meets its contract: the digits passed are in the number, so the rest tells the whole.
use borrow.Author.Rules.{rules}
use Prim.Native.Nat.{ℕ, ◌+◌}
use mathlib.Core.Path.{ap, sym, ◌∙◌}
use native.Mathlib.Omega.{arith}
use lib.ListN.{drop}
use Rattle.merge.specs.Merged.{number_from, behind}
use Rattle.merge.proofs.Numbers.{number_stops, number_goes, number_ends, behind_stops, behind_goes, behind_ends, digit_range}
use Rattle.merge.proofs.head.field_in.Goals as goal

pub loop-i-init : goal.loop-i-init
loop-i-init c =
    let e = sym c.behind-i.ensures.1 in
    (c.behind-i.ensures.0, ap (number_from 0) e, ap behind e)

pub returns-then-not-is_digit : goal.returns-then-not-is_digit
returns-then-not-is_digit c =
    let s = c.args.s.now in
    let h = c.loop-i-test.true in
    let d = sym c.is_digit.ensures ∙ c.if-not-is_digit.true in
    record {
      value = sym (c.loop-i.invariant.1 ∙ number_stops s c.loop-i.i h d c.loop-i.n);
      rest = sym (c.loop-i.invariant.2 ∙ behind_stops s c.loop-i.i h d);
      high = c.loop-i.invariant.0;
    }

pub further-n-requires : goal.further-n-requires
further-n-requires c = digit_range _ (sym c.is_digit.ensures ∙ c.if-not-is_digit.false)

pub loop-i-preserved : goal.loop-i-preserved
loop-i-preserved c =
    let s = c.args.s.now in
    let h = c.loop-i-test.true in
    let d = sym c.is_digit.ensures ∙ c.if-not-is_digit.false in
    (search rules, c.loop-i.invariant.1 ∙ number_goes s c.loop-i.i h d c.loop-i.n ∙ ap (λ (x : ℕ). number_from x (drop (c.loop-i.i + 1) s)) (sym c.further-n.ensures), c.loop-i.invariant.2 ∙ behind_goes s c.loop-i.i h d)

pub returns : goal.returns
returns c =
    let s = c.args.s.now in
    record {
      value = sym (c.loop-i.invariant.1 ∙ number_ends s c.loop-i.i (omega arith) c.loop-i.n);
      rest = sym (c.loop-i.invariant.2 ∙ behind_ends s c.loop-i.i (omega arith));
      high = c.loop-i.invariant.0;
    }
