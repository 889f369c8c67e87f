-- `merge::lines::put_part` meets its contract: so many bytes as the loop has passed are copied.
use Prim.Native.Nat.{ℕ}
use mathlib.Core.Path.{◌≡◌, refl, sym, ap, ◌∙◌}
use native.Mathlib.Omega.{arith}
use lib.ListN.{get_or, length-set}
use Rattle.text.proofs.Buffer.{wrote_none, wrote_byte, wrote_then, wrote_as}
use Rattle.form.specs.Scan.{part}
use Rattle.merge.proofs.Walking.{part_none, part_more}
use Rattle.merge.proofs.lines.put_part.Goals as goal

pub loop-i-init : goal.loop-i-init
loop-i-init c =
    let a = c.args in
    (omega arith, refl, wrote_as (wrote_none a.out.now a.at) (sym (part_none a.s.now a.from)))

pub loop-i-preserved : goal.loop-i-preserved
loop-i-preserved c =
    let a = c.args in
    let w = wrote_byte c.loop-i.out c.loop-i.k (get_or a.s.now c.loop-i.i 0) in
    (omega arith, length-set c.loop-i.out c.loop-i.k (get_or a.s.now c.loop-i.i 0) ∙ c.loop-i.invariant.1, wrote_as (wrote_then c.loop-i.invariant.2 w) (part_more a.s.now a.from c.loop-i.i (omega arith) (omega arith)))

pub returns : goal.returns
returns c =
    let a = c.args in
    wrote_as c.loop-i.invariant.2 (ap (λ (x : ℕ). part a.from x a.s.now) (let e : c.loop-i.i ≡ a.to = omega arith in e))
