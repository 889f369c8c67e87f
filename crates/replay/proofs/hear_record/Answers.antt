-- `replay::hear_record` meets its contract: the time is the number of the first eight bytes.
use native.Mathlib.Omega.{arith}
use Rattle.fields.specs.Bytes.{Bytes}
use Rattle.replay.proofs.Ways.{record_heard}
use Rattle.replay.proofs.hear_record.Goals as goal

pub returns : goal.returns
returns c =
    let a = c.args in
    let h : Bytes a.bytes.now = λ i. omega (arith, c.type_inv.bytes i) in
    record_heard a.site a.key a.own.now a.bytes.now c.requires h c.number_of-time.ensures c.hear.ensures
