-- `text::put_figure` meets its contract: by the cases of the figure.
use Rattle.std.specs.Prelude.{Some}
use lib.IntN.{ℤ}
use mir.Syntax.{w64}
use mir.Val.{to_z, of_z}
use mathlib.Core.Path.{◌≡◌, sym, ap, ◌∙◌}
use native.Mathlib.Omega.{arith}
use Rattle.text.specs.Lines.{figure}
use Rattle.text.proofs.Buffer.{wrote_then, wrote_as}
use borrow.Author.Rules.{rules}
use Rattle.text.proofs.put_figure.Goals as goal

pub returns-in-Some : goal.returns-in-Some
unfolding figure
returns-in-Some c =
    let p = c.put_byte-a.ensures in
    let q = c.put_signed.ensures in
    let e : to_z w64 (of_z w64 c.in-Some.z) ≡ c.in-Some.z = search rules in
    record { wrote = wrote_as (wrote_then p q.wrote) (ap (λ (x : ℤ). figure (Some x)) e ∙ sym (ap figure c.in-Some.is)); upper_bound = omega (arith, p.next) }

pub returns-in-None : goal.returns-in-None
unfolding figure
returns-in-None c =
    let p = c.put_byte-a.ensures in
    let q = c.put_byte.ensures in
    record { wrote = wrote_as (wrote_then p q) (sym (ap figure c.in-None.is)); upper_bound = omega (arith, p.next, q.next) }
