-- `feed::block_at` meets its contract: the last block may be a part, and every other has 512 bytes.
use Prim.Native.Nat.{◌+◌, ◌-◌, ◌*◌}
use native.Mathlib.Omega.{arith}
use Rattle.feed.proofs.Ways.{block_short, block_whole}
use Rattle.feed.proofs.block_at.Goals as goal

pub returns-then-left-lt512 : goal.returns-then-left-lt512
returns-then-left-lt512 c = block_short _ _ c.requires c.if-left-lt512.true

pub returns : goal.returns
returns c =
    let a = c.args in
    block_whole a.capture.now a.k (512 * a.k + 512 - 512 * a.k) (omega arith)
