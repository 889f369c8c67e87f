-- The table was emptied, and then fed what each turn read: a whole block, or a part of one at the end.
use Rattle.std.specs.Prelude.{Result, ℕ}
use Rattle.std.proofs.Common.{rules, arith, take, length-take, refl, sym, ap, ◌∙◌}
use Rattle.table.specs.Table.{after}
use Rattle.listing.proofs.Reading.{set_up_empties, none_read, from_empty, so_far, refused_read, last_read, one_more, whole_read}
use Rattle.listing.proofs.read_all.Goals as goal
use Rattle.refusals.specs.declared.Refusal.{Refusal}

pub loop-turns-init : goal.loop-turns-init
loop-turns-init g c = (refl, search rules, search rules, none_read _ (search rules))

pub returns-then-n-eq0 : goal.returns-then-n-eq0
returns-then-n-eq0 g c =
    from_empty (set_up_empties _ c.requires.0 c.set_up.ensures) (so_far c.loop-turns.invariant.3)

pub returns-in_default : goal.returns-in_default
returns-in_default g c =
    from_empty (set_up_empties _ c.requires.0 c.set_up.ensures) (refused_read _ c.loop-turns.invariant.3 _ (ap (λ (x : Result ℕ Refusal). after x c.feed_block.new.table) (sym c.in_default.is) ∙ c.feed_block.ensures))

pub returns-then-n-lt512 : goal.returns-then-n-lt512
returns-then-n-lt512 g c =
    let b = take c.in_ok-n.n c.read_full.new.buf in
    let z = length-take c.in_ok-n.n c.read_full.new.buf in
    from_empty (set_up_empties _ c.requires.0 c.set_up.ensures)
    (last_read b c.loop-turns.invariant.3 (omega arith) (ap (λ (x : Result ℕ Refusal). after x c.feed_block.new.table) (sym c.in-Ok.is) ∙ c.feed_block.ensures) (omega arith) (omega arith))

pub loop-turns-preserved : goal.loop-turns-preserved
loop-turns-preserved g c =
    let b = take c.in_ok-n.n c.read_full.new.buf in
    let z = length-take c.in_ok-n.n c.read_full.new.buf in
    let q = ap (λ (x : Result ℕ Refusal). after x c.feed_block.new.table) (sym c.in-Ok.is) ∙ c.feed_block.ensures in
    let w = whole_read b c.loop-turns.invariant.3 (omega arith) q (omega arith) in
    let m = one_more b c.loop-turns.invariant.3 (omega arith) q (omega arith) (omega arith) in
    (search rules, search rules, omega arith, w)

pub returns : goal.returns
returns g c =
    from_empty (set_up_empties _ c.requires.0 c.set_up.ensures) (so_far c.loop-turns.invariant.3)
