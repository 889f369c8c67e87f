-- `text::numbers::put_two` meets its contract: w is the first digit and 256 times the second.
use Prim.Native.Nat.{ℕ, ◌+◌, ◌-◌, ◌*◌, ◌/◌, ◌%◌}
use mathlib.Core.Path.{◌≡◌, ap}
use mathlib.Core.List.{[], ◌∷◌}
use native.Mathlib.Omega.{arith}
use Rattle.text.proofs.Buffer.{wrote_then, wrote_as}
use Rattle.text.proofs.numbers.put_two.Goals as goal

pub returns : goal.returns
returns c =
    let n = c.args.n in
    let w : ℕ = 0x3030 + 256 * n - 2559 * (n / 10) in
    let low : w % 256 ≡ 48 + n / 10 = omega arith in
    let high : w / 256 ≡ 48 + n % 10 = omega arith in
    wrote_then
    (wrote_as c.put_byte-a.ensures (ap (λ (x : ℕ). x ∷ []) low))
    (wrote_as c.put_byte.ensures (ap (λ (x : ℕ). x ∷ []) high))
