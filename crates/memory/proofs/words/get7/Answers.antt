-- `memory::words::get7` meets its contract: eight bytes without the first.
use Prim.Native.Nat.{ℕ, suc, ◌-◌, ◌/◌}
use native.Mathlib.Omega.{arith}
use mathlib.Core.Path.{◌≡◌, ap, ◌∙◌}
use Rattle.fields.specs.Bytes.{Bytes}
use Rattle.memory.specs.Bytes.{number_at}
use Rattle.memory.proofs.Numbers.{number_rest}
use Rattle.memory.proofs.words.get7.Goals as goal

pub returns : goal.returns
returns c =
    let a = c.args in
    let h : Bytes a.s.now = λ i. omega (arith, c.type_inv.s i) in
    let e : suc (a.at - 1) ≡ a.at = omega (arith, c.requires.0) in
    ap (λ (n : ℕ). n / 256) c.get8.ensures ∙ number_rest 7 a.s.now (a.at - 1) h ∙ ap (number_at 7 a.s.now) e
