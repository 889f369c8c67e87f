-- `place::write::above_pole` meets its contract: a latitude 2^32 up, which has 33 bits, and 2^30 more.
use Prim.Native.Nat.{ℕ}
use mathlib.Core.Path.{◌≡◌, ap, ◌∙◌}
use native.Mathlib.Omega.{arith}
use lib.IntN.{ℤ}
use mir.Val.{SFits, of_z, to_z}
use mir.Syntax.{w32}
use mir.Facts.{to_z-of_z}
use Rattle.signs.specs.Raised.{raised}
use Rattle.signs.proofs.Raised.{raise_small}
use Rattle.place.proofs.Latitudes.{above_pole_is}
use Rattle.place.proofs.write.above_pole.Goals as goal

-- what is raised is the latitude itself, which has 32 bits
up_is : {z : ℤ} {n : ℕ} → SFits w32 z → n ≡ raised (to_z w32 (of_z w32 z)) → n ≡ raised z
up_is f e = e ∙ ap raised (to_z-of_z f)

pub overflow_add-result : goal.overflow_add-result
overflow_add-result c = rw (up_is c.ranges.latitude c.raise.ensures) (omega (arith, raise_small c.args.latitude c.ranges.latitude.sfits))

pub returns : goal.returns
returns c = rw (up_is c.ranges.latitude c.raise.ensures) (above_pole_is c.args.latitude c.ranges.latitude.sfits)
