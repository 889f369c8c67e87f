-- `degrees::count` meets its contract: 360 k is in the range that is tested, and its whole part is itself.
use Rattle.std.proofs.Common.{ℕ, ◌/◌, true, false, T, pos, sym, ap, ◌∙◌, subst, true≢false}
use lib.Ieee.{Float, fin, of_bits, neg, lt, to_unsigned}
use Rattle.degrees.proofs.Return.{above, below, counted}
use Rattle.degrees.proofs.count.Goals as goal

pub truncating_f64_to_u64-requires : goal.truncating_f64_to_u64-requires
unfolding of_bits neg
truncating_f64_to_u64-requires c = record { lower_bound = subst T (sym c.if-y.true) tt; upper_bound = subst T (sym c.if-y-2.true) tt }

pub returns-then-y-2 : goal.returns-then-y-2
returns-then-y-2 c k h e = ap (λ (y : ℕ). y / 360) (c.truncating_f64_to_u64.ensures ∙ ap (to_unsigned 64) e) ∙ counted k h

pub returns-else-y-2 : goal.returns-else-y-2
unfolding of_bits neg
returns-else-y-2 c k h e = absurd (true≢false (sym (below k h) ∙ ap (λ (y : Float). lt y (fin false 1 (pos 64))) (sym e) ∙ c.if-y-2.false))

pub returns-else-y : goal.returns-else-y
unfolding of_bits neg
returns-else-y c k h e = absurd (true≢false (sym (above k h) ∙ ap (lt (fin true 1 (pos 0))) (sym e) ∙ c.if-y.false))
