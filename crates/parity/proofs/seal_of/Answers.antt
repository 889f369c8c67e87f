-- `parity::seal_of` meets its contract: `r` is the seal of the bytes passed.
use Prim.Native.Nat.{ℕ, ◌%◌, ◌^◌}
use mathlib.Core.Path.{sym, ap, ◌∙◌}
use native.Mathlib.Omega.{arith}
use lib.ListN.{get_or}
use Rattle.parity.specs.Division.{stepped}
use Rattle.parity.proofs.Seal.{seal_none, seal_next}
use Rattle.parity.proofs.seal_of.Goals as goal

pub loop-byte-init : goal.loop-byte-init
loop-byte-init c = omega (arith, seal_none)

pub loop-byte-preserved : goal.loop-byte-preserved
loop-byte-preserved c =
    let s = c.args.s.now in
    let i = c.loop-byte.byte-index in
    c.step-r.ensures
    ∙ ap (λ (r : ℕ). stepped (r % 2 ^ 24) (get_or s i 0)) c.loop-byte.invariant
    ∙ sym (seal_next s i (λ j. omega (arith, c.type_inv.s j)) (omega arith))
