-- `positions::pair_longitude_zone` meets its contract: NL n zones up the numerator is never below zero, and the remainder by n is the same.
use Prim.Native.Nat.{ℕ, ◌-◌, ◌*◌, ◌≤◌, ◌<◌}
use mathlib.Core.Path.{sym, ◌∙◌}
use native.Mathlib.Nat.{mul-le-mul, mul-le-mul_left}
use native.Mathlib.Omega.{arith}
use Rattle.positions.proofs.Naturals.{pair_zone_is}
use Rattle.positions.proofs.pair_longitude_zone.Goals as goal

-- the products of two variables, each bounded once
record Bounds (m n a b : ℕ) : Type 0 where
  mn : m * n ≤ 59 * 59
  ma : a * (m - 1) ≤ 131071 * 59
  mb : b * m ≤ 131071 * 59
  over : m * b ≤ m * (n * 131072)

bounds : (m n a b : ℕ) → ((0 < m) × (m ≤ 59)) × (((0 < n) × (n ≤ 59)) × ((a < 131072) × (b < 131072))) → Bounds m n a b
bounds m n a b h =
    record {
      mn = mul-le-mul h.0.1 h.1.0.1;
      ma = mul-le-mul {n₂ = 131071} {m₂ = 59} (omega arith) (omega arith);
      mb = mul-le-mul {n₂ = 131071} {m₂ = 59} (omega arith) (omega arith);
      over = mul-le-mul_left m (omega arith);
    }

pub returns : goal.returns
returns c =
    let a = c.args in
    (c.zone_by.ensures.0 ∙ sym (pair_zone_is 131072 a.nl a.n a.even.0 a.odd.0 (omega arith) (omega arith) (omega arith)), c.zone_by.ensures.1)
