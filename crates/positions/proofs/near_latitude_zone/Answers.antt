-- `positions::near_latitude_zone` meets its contract: one turn up the difference is never below zero, and rounds as it would a turn lower.
use Prim.Native.Nat.{◌-◌, ◌*◌, ◌≤◌}
use mathlib.Core.Path.{◌≡◌}
use native.Mathlib.Omega.{arith}
use native.Mathlib.Nat.{mul-le-mul}
use Rattle.positions.specs.Code.{nearestℕ}
use Rattle.positions.proofs.Naturals.{near_zone_latitude}
use Rattle.positions.proofs.near_latitude_zone.Goals as goal

pub overflow_cast-result : goal.overflow_cast-result
unfolding nearestℕ
overflow_cast-result c =
    let a = c.args in
    let most : a.up * (a.n * 131072) ≤ 5368709120 * 31457280 = mul-le-mul {n₂ = 5368709120} {m₂ = 31457280} (omega arith) (omega arith) in
    let e : c.nearest.result ≡ nearestℕ (a.up * (a.n * 131072) - a.count.0 * 4294967296) 562949953421312 = c.nearest.ensures in
    omega arith

pub returns : goal.returns
unfolding nearestℕ
returns c =
    let a = c.args in
    let most : a.up * (a.n * 131072) ≤ 5368709120 * 31457280 = mul-le-mul {n₂ = 5368709120} {m₂ = 31457280} (omega arith) (omega arith) in
    let least : 3221225472 * 7733248 ≤ a.up * (a.n * 131072) = mul-le-mul {n₁ = 3221225472} {m₁ = 7733248} (omega arith) (omega arith) in
    let e : c.nearest.result ≡ nearestℕ (a.up * (a.n * 131072) - a.count.0 * 4294967296) 562949953421312 = c.nearest.ensures in (
      rw c.nearest.ensures (near_zone_latitude 131072 a.n a.up a.count.0 (omega arith) (omega arith) (omega arith)),
      omega arith,
    )
