-- `form::piece_end` meets its contract: no byte passed is the separator.
use native.Mathlib.Omega.{arith}
use mathlib.Core.Path.{◌≡◌, refl}
use lib.ListN.{length}
use Rattle.form.proofs.Loops.{free_none, free_on, ends_at, ends_last}
use borrow.Author.Rules.{rules}
use Rattle.form.proofs.piece_end.Goals as goal

pub loop-i-init : goal.loop-i-init
loop-i-init c = free_none c.args.sep c.args.s.now c.args.from

pub returns-then-s-i : goal.returns-then-s-i
returns-then-s-i c = ends_at _ _ _ c.loop-i.i (search rules) (search rules) c.loop-i.invariant c.if-s-i.true

pub loop-i-preserved : goal.loop-i-preserved
loop-i-preserved c = free_on _ _ _ c.loop-i.i (search rules) (search rules) c.loop-i.invariant c.if-s-i.false

pub returns : goal.returns
returns c =
    let e : c.loop-i.i ≡ length c.args.s.now = omega (arith, c.loop-i.auto.i-end c.requires) in
    ends_last _ _ _ _ c.requires refl (rw e at c.loop-i.invariant)
