-- `positions::near_longitude_zone` meets its contract: n zones up the difference is never below zero and at most 2 n, and the remainder by n is the same.
use Prim.Native.Nat.{ℕ, ◌+◌, ◌-◌, ◌*◌, ◌%◌, ◌≤◌}
use mathlib.Core.Path.{◌≡◌, sym, ap, ◌∙◌}
use native.Mathlib.Omega.{arith}
use native.Mathlib.Nat.{mod-lt, mul-le-mul}
use Rattle.positions.specs.Code.{nearestℕ}
use Rattle.positions.proofs.Naturals.{near_zone_modulo}
use Rattle.positions.proofs.near_longitude_zone.Goals as goal

pub folded-requires : goal.folded-requires
unfolding nearestℕ
folded-requires c =
    let a = c.args in
    let most : a.longitude * (a.n * 131072) ≤ 4294967296 * (a.n * 131072) = mul-le-mul {n₂ = 4294967296} (omega arith) (omega arith) in
    let e : c.nearest.result ≡ nearestℕ (a.longitude * (a.n * 131072) + a.n * 562949953421312 - a.count.0 * 4294967296) 562949953421312 = c.nearest.ensures in
    (omega arith, omega arith)

pub overflow_cast-result : goal.overflow_cast-result
overflow_cast-result c = omega (arith, c.folded.ensures, mod-lt c.nearest.result {m = c.args.n} (omega arith))

pub returns : goal.returns
returns c =
    let a = c.args in (
      c.folded.ensures
          ∙ ap (λ (y : ℕ). y % a.n) c.nearest.ensures
          ∙ sym (near_zone_modulo 131072 a.n a.longitude a.count.0 (omega arith) (omega arith) (omega arith)),
      rw c.folded.ensures (mod-lt c.nearest.result (omega arith)),
    )
