-- The way out of a call that leaves a table: the number of the answer below.
-- Assumes nothing.
use Prim.Native.Nat.{ℕ}
use mathlib.Core.Path.{◌≡◌, ap, ◌∙◌}
use mathlib.Core.List.{List}
use Rattle.table.specs.Table.{After, after}
use Rattle.entries.specs.Sent.{sent}

pub left_as : {A : Type 0} (f : A → ℕ) {a : A} {r : ℕ} {s : List ℕ} {b : After A} → r ≡ f a → after a s ≡ b → sent r s ≡ sent (f b.answer) b.table
left_as f {s = s} p e = ap (λ (n : ℕ). sent n s) p ∙ ap (λ x. sent (f x.answer) x.table) e
