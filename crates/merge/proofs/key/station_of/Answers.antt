-- `merge::key::station_of` meets its contract: one digit, or two.
use Prim.Native.Nat.{ℕ, ◌+◌, ◌-◌}
use mathlib.Core.Path.{sym, ap, ◌∙◌}
use borrow.Author.Tests.{eq-eqb, ne_eqb}
use Rattle.merge.specs.Merged.{station_of}
use Rattle.merge.proofs.key.station_of.Goals as goal

pub returns-then-one-eq32 : goal.returns-then-one-eq32
unfolding station_of
returns-then-one-eq32 c =
    simp (eq-eqb _ 32 (sym c.byte_at-one.ensures ∙ c.if-one-eq32.true)) (c.saturating_sub.ensures ∙ ap (λ (x : ℕ). x - 48) c.byte_at.ensures)

pub returns : goal.returns
unfolding station_of
returns c =
    simp (ne_eqb _ 32 (λ h. c.if-one-eq32.false (c.byte_at-one.ensures ∙ h))) (ap (λ (x : ℕ). 10 + x) (c.saturating_sub-2.ensures ∙ ap (λ (x : ℕ). x - 48) c.byte_at-one.ensures))
