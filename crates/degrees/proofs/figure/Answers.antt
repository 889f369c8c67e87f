-- `degrees::figure` meets its contract: each of its steps is exact.
use Rattle.std.proofs.Common.{to_z-of_z}
use lib.Signed.{nat_abs-le}
use Rattle.degrees.proofs.Steps.{figure_is}
use Rattle.degrees.proofs.figure.Goals as goal

pub returns : goal.returns
returns c = rw (to_z-of_z c.ranges.n) (figure_is c.args.n (nat_abs-le c.args.n c.ranges.n.sfits))
