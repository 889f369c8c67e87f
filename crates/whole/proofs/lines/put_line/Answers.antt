-- `whole::lines::put_line` meets its contract: so many bytes as the loop has passed are copied.
use Prim.Native.Nat.{ℕ, ◌+◌}
use native.Mathlib.Omega.{arith}
use native.Mathlib.Numerals.{add-one}
use mathlib.Core.Path.{◌≡◌, refl, sym, ap, ◌∙◌}
use mathlib.Core.List.{List}
use lib.ListN.{length, set, get_or, length-set}
use lib.Seq.{paste, paste-zero, paste-suc}
use borrow.Author.Rules.{rules}
use Rattle.text.specs.Lines.{line_room}
use Rattle.whole.proofs.lines.put_line.Goals as goal

pub loop-i-init : goal.loop-i-init
loop-i-init c = (search rules, search rules, let a = c.args in paste-zero a.out.now a.at a.line.bytes)

pub loop-i-preserved : goal.loop-i-preserved
loop-i-preserved c =
    let a = c.args in
    let t : line_room ≡ length a.line.bytes = sym c.requires.1 in (
      omega arith,
      length-set c.loop-i.out (a.at + c.loop-i.i) (get_or a.line.bytes c.loop-i.i 0) ∙ c.loop-i.invariant.1,
      ap (λ (x : List ℕ). set x (a.at + c.loop-i.i) (get_or a.line.bytes c.loop-i.i 0)) c.loop-i.invariant.2
          ∙ paste-suc a.out.now a.at a.line.bytes c.loop-i.i 0 (omega arith) (omega arith)
          ∙ ap (paste a.out.now a.at a.line.bytes) (sym (add-one c.loop-i.i)),
    )

pub returns : goal.returns
returns c =
    let a = c.args in
    let e : c.loop-i.i ≡ line_room = omega arith in
    (c.loop-i.invariant.2 ∙ ap (paste a.out.now a.at a.line.bytes) e, refl)
