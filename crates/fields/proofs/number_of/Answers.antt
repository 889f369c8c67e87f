-- `fields::number_of` meets its contract: a byte more is the next byte of the number.
use Prim.Native.Nat.{◌+◌}
use mathlib.Core.Path.{◌≡◌, ap}
use mathlib.Core.List.{[], ◌∷◌, ◌++◌}
use native.Mathlib.Omega.{arith}
use native.Mathlib.Numerals.{add-one}
use lib.ListN.{take, get_or}
use lib.Seq.{take-suc}
use Rattle.fields.specs.Bytes.{number}
use Rattle.fields.proofs.Bytes.{number_snoc}
use Rattle.fields.proofs.number_of.Goals as goal

pub loop-x-preserved : goal.loop-x-preserved
loop-x-preserved c =
    let s = c.args.s.now in
    let i = c.loop-x.x-index in
    let e : take (i + 1) s ≡ take i s ++ (get_or s i 0 ∷ []) = rw add-one (take-suc s i 0 (omega arith)) in
    omega (arith, ap number e, number_snoc (take i s) (get_or s i 0), c.type_inv.s i)
