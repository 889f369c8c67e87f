-- A block, with what it leaves.
-- Assumes nothing.
use Rattle.std.specs.Prelude.{Result}
use Prim.Native.Nat.{ℕ}
use mathlib.Core.Path.{◌≡◌, ap, ◌∙◌}
use mathlib.Core.Bool.{cond, not}
use mathlib.Core.List.{List}
use borrow.Author.Tests.{eq-eqb}
use lib.Dec.{eqb}
use lib.ListN.{length}
use Rattle.table.specs.Table.{After, after}
use Rattle.entries.specs.Sent.{Sent, given}
use Rattle.addercoil.specs.Blocks.{Both, both, fed_said, fed_into}
use Rattle.refusals.specs.declared.Refusal.{Refusal}

pub fed_on : (out : List ℕ) {x : Sent} {a : Result ℕ Refusal} {t : List ℕ} (b : After (Result ℕ Refusal)) (w : Both) → length out ≡ 1 → x ≡ given out (fed_said a) → after a t ≡ b → both x t ≡ cond (not (eqb (length out) 1)) w (fed_into out b)
unfolding fed_into
fed_on out {t = t} b w h p e = ap (λ (y : Sent). both y t) p ∙ ap (fed_into out) e ∙ rw (eq-eqb _ _ h)
