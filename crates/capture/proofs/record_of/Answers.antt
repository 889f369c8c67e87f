-- `capture::record_of` meets its contract: each way out is a law of proofs/Records.
use Rattle.std.specs.Prelude.{Some}
use Prim.Native.Nat.{ℕ, ◌+◌}
use mathlib.Core.Path.{◌≡◌, sym, ap, ◌∙◌}
use native.Mathlib.Omega.{arith}
use lib.ListN.{length}
use borrow.Author.Tests.{ne_eqb}
use Rattle.fields.specs.Bytes.{Bytes}
use Rattle.capture.specs.Block.{at, start_of}
use Rattle.capture.proofs.Records.{there, no_block, count_ended, past_ended, time_whole}
use Rattle.capture.proofs.record_of.Goals.{then-b-ne512-via-then-b-ne512, then-b-ne512-via-else-b-ne512+then-from-i, then-b-ne512-via-else-b-ne512+else-from-i+then-i-ge23}
use Rattle.capture.proofs.record_of.Goals as goal

pub returns-then-b-ne512 : goal.returns-then-b-ne512
returns-then-b-ne512 c =
    elim c.then-b-ne512.branch [
      | then-b-ne512-via-then-b-ne512 w ↦ sym (no_block _ _ (ne_eqb _ _ w.if-b-ne512.true))
      | then-b-ne512-via-else-b-ne512+then-from-i w ↦ sym (count_ended _ _ (omega (arith, w.from.ensures, w.if-from-i.true)))
      | then-b-ne512-via-else-b-ne512+else-from-i+then-i-ge23 w ↦ sym (past_ended _ _ (omega (arith, w.if-i-ge23.true)))
    ]

pub returns : goal.returns
returns c =
    let a = c.args in
    let e : length a.b.now ≡ 512 = c.if-b-ne512.false in
    let y : Bytes a.b.now = λ i. omega (arith, c.shared_slice_known-1.given i) in
    ap (λ (t : ℕ). Some (at t (start_of a.i + 8))) (c.number_of-time.ensures ∙ time_whole a.b.now a.i y (omega (arith, e, c.if-i-ge23.false)))
    ∙ sym (there a.b.now a.i e (omega (arith, c.from.ensures, c.if-from-i.false)) (omega (arith, c.if-i-ge23.false)))
