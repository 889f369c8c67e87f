-- A number rounded to nearest, half up, is within a half of it, and is the only whole number that is: the bounds of a quotient.
-- Assumes nothing.
use mathlib.Core.Path.{◌≡◌}
use Prim.Native.Nat.{ℕ, ◌+◌, ◌*◌, ◌≤◌, ◌<◌}
use native.Mathlib.Nat.{div-mul-le_self, lt-div-mul-add, div-eq_of_lt-le}
use native.Mathlib.Omega.{arith}
use Rattle.positions.specs.Code.{nearestℕ}

pub twice_pos : {d : ℕ} → 0 < d → 0 < 2 * d
twice_pos h = omega arith

pub near_low : (a : ℕ) {d : ℕ} → 0 < d → 2 * (d * nearestℕ a d) ≤ 2 * a + d
unfolding nearestℕ
near_low a {d} h = omega (arith, div-mul-le_self (2 * a + d) (2 * d))

pub near_high : (a : ℕ) {d : ℕ} → 0 < d → 2 * a + d < 2 * (d * nearestℕ a d) + 2 * d
unfolding nearestℕ
near_high a {d} h = omega (arith, lt-div-mul-add {a = 2 * a + d} {b = 2 * d} (twice_pos h))

pub near_only : (a d j : ℕ) → 0 < d → 2 * (d * j) ≤ 2 * a + d → 2 * a + d < 2 * (d * j) + 2 * d → nearestℕ a d ≡ j
unfolding nearestℕ
near_only a d j p l h = div-eq_of_lt-le (2 * d) (omega arith) (omega arith)
