-- `messages::frame_of` meets its contract: the numbers of the first four bytes and of the seven behind them have the fields that the definition names by bits.
use native.Mathlib.Nat.{div-one}
use native.Mathlib.Omega.{arith}
use Rattle.fields.specs.Bytes.{Bytes}
use Rattle.messages.proofs.Parts.{frame_is}
use Rattle.messages.proofs.frame_of.Goals as goal

pub returns : goal.returns
returns c =
    let s = c.args.s.now in
    let h : Bytes s = λ i. omega (arith, c.type_inv.s i) in
    rw (div-one c.number_of-head.result) at (frame_is s c.requires h _ _ c.number_of-head.ensures c.number_of-me.ensures)
