-- `positions::nearest` meets its contract, which is its formula.
use mathlib.Core.Path.{refl}
use Rattle.positions.specs.Code.{nearestℕ}
use Rattle.positions.proofs.nearest.Goals as goal

pub returns : goal.returns
unfolding nearestℕ
returns c = refl
