-- `place::read::lower` meets its contract: from pole to pole the number less 2^30 fits an i32.
use Prim.Native.Nat.{ℕ, ◌≤◌}
use native.Mathlib.Omega.{arith}
use lib.IntN.{pos, ◌-ℤ◌}
use mir.Val.{SFits}
use mir.Syntax.{w32, w64}
use mir.Facts.{to_z-of_z, to_z_pos, sfits_widen}
use Rattle.place.proofs.Latitudes.{lower_small}
use Rattle.place.proofs.read.lower.Goals as goal

narrow : (n : ℕ) → n ≤ 2147483648 → SFits w32 (pos n -ℤ pos 1073741824)
narrow n h = record { sfits = lower_small n h }

wide : (n : ℕ) → n ≤ 2147483648 → SFits w64 (pos n -ℤ pos 1073741824)
wide n h = sfits_widen tt (narrow n h)

pub overflow_sub-result : goal.overflow_sub-result
overflow_sub-result c = rw (to_z_pos w64 {n = c.args.n} (omega arith)) (wide c.args.n c.requires)

pub overflow_cast-result-2 : goal.overflow_cast-result-2
overflow_cast-result-2 c = rw (to_z_pos w64 {n = c.args.n} (omega arith), to_z-of_z (wide c.args.n c.requires)) (narrow c.args.n c.requires)

pub returns : goal.returns
returns c = rw (to_z_pos w64 {n = c.args.n} (omega arith), to_z-of_z (wide c.args.n c.requires), to_z-of_z (narrow c.args.n c.requires))
