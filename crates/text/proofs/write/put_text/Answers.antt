-- `text::write::put_text` meets its contract: the bytes passed are written.
use Prim.Native.Nat.{◌+◌}
use mathlib.Core.Path.{◌≡◌, refl, sym}
use mathlib.Core.List.{[], ◌∷◌, ◌++◌}
use native.Mathlib.Omega.{arith}
use native.Mathlib.Numerals.{add-one}
use borrow.Author.Rules.{rules}
use lib.ListN.{take, get_or}
use lib.Seq.{take-suc, take_all}
use Rattle.text.proofs.Buffer.{wrote_none, wrote_then, wrote_as}
use Rattle.text.proofs.write.put_text.Goals as goal

pub loop-b-init : goal.loop-b-init
loop-b-init c = (refl, search rules, wrote_none _ _)

pub loop-b-preserved : goal.loop-b-preserved
loop-b-preserved c =
    let s = c.args.text.now in
    let i = c.loop-b.b-index in
    let e : take i s ++ (get_or s i 0 ∷ []) ≡ take (i + 1) s = sym (rw add-one (take-suc s i 0 (omega arith))) in
    let p = c.put_byte-a.ensures in
    (search rules, omega (arith, p.next), wrote_as (wrote_then c.loop-b.invariant.2 p) e)

pub returns : goal.returns
returns c = wrote_as c.loop-b.invariant.2 (take_all c.loop-b.b-index c.args.text.now (omega arith))
