-- `addercoil::stamped::give_noted` meets its contract: both entries are written, and the number is that of the answer.
use Prim.Native.Nat.{ℕ}
use mathlib.Core.Path.{ap, ap₂, ◌∙◌}
use mathlib.Core.List.{[], ◌∷◌}
use Rattle.entries.specs.Sent.{sent}
use Rattle.addercoil.proofs.Stamping.{written}
use Rattle.addercoil.proofs.stamped.give_noted.Goals as goal

pub returns : goal.returns
returns c =
    let a = c.args in
    ap₂ sent c.done_number.ensures (written a.state.now c.bit.result a.noted.state.last c.requires ∙ ap (λ (x : ℕ). x ∷ a.noted.state.last ∷ []) c.bit.ensures)
