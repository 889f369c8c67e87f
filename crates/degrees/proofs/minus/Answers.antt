-- `degrees::minus` meets its contract: -1 - k fits 32 bits.
use Rattle.std.proofs.Common.{negsuc, to_z-of_z, w32, SFits}
use mir.Facts.{to_z_pos}
use Rattle.degrees.proofs.Signed.{minus_is}
use Rattle.degrees.proofs.minus.Goals as goal

pub overflow_sub-result : goal.overflow_sub-result
overflow_sub-result c =
    let fits : SFits w32 (negsuc c.args.k) = record { sfits = c.requires } in
    rw (to_z_pos w32 {n = c.args.k} c.requires, minus_is c.args.k) fits

pub returns : goal.returns
returns c =
    let fits : SFits w32 (negsuc c.args.k) = record { sfits = c.requires } in
    rw (to_z_pos w32 {n = c.args.k} c.requires, minus_is c.args.k, to_z-of_z fits)
