-- `capture::block_of` meets its contract: each way out is one of proofs/Ways.
use native.Mathlib.Omega.{arith}
use Rattle.capture.proofs.Ways.{bad_size, bad_none, bad_many, kept, failed}
use Rattle.capture.proofs.block_of.Goals.{then-count-lt1-via-then-count-lt1, then-count-lt1-via-else-count-lt1+then-count-gt23}
use Rattle.capture.proofs.block_of.Goals as goal

pub returns-then-b-ne512 : goal.returns-then-b-ne512
returns-then-b-ne512 c = bad_size _ c.if-b-ne512.true

pub returns-then-count-lt1 : goal.returns-then-count-lt1
returns-then-count-lt1 c =
    elim c.then-count-lt1.branch [
      | then-count-lt1-via-then-count-lt1 w ↦ bad_none _ _ c.if-b-ne512.false c.from-count.ensures (omega (arith, w.if-count-lt1.true))
      | then-count-lt1-via-else-count-lt1+then-count-gt23 w ↦
          bad_many _ _ c.if-b-ne512.false c.from-count.ensures (omega (arith, w.if-count-lt1.false)) (omega (arith, w.if-count-gt23.true))
    ]

pub returns-then-all_zero-remainder_of : goal.returns-then-all_zero-remainder_of
returns-then-all_zero-remainder_of c =
    kept _ _ c.if-b-ne512.false c.from-count.ensures _ _ (omega (arith, c.if-count-lt1.false)) (omega (arith, c.if-count-gt23.false))
    c.all_zero.ensures c.remainder_of.ensures c.if-all_zero-remainder_of.true

pub returns-else-all_zero-remainder_of : goal.returns-else-all_zero-remainder_of
returns-else-all_zero-remainder_of c =
    failed _ _ c.if-b-ne512.false c.from-count.ensures _ _ (omega (arith, c.if-count-lt1.false)) (omega (arith, c.if-count-gt23.false))
    c.all_zero.ensures c.remainder_of.ensures c.if-all_zero-remainder_of.false
