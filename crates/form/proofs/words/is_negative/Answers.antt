-- `form::words::is_negative` meets its contract: by the test of the length.
use Prim.Native.Nat.{ℕ, ◌-◌}
use mathlib.Core.Path.{sym, ap, ◌∙◌}
use mathlib.Core.Bool.{Bool, ◌&&◌}
use native.Mathlib.Omega.{arith}
use lib.Dec.{eqb}
use lib.ListN.{length, drop, get_or, length-drop, get_or-eq_default}
use lib.Seq.{take_all}
use Rattle.form.specs.Form.{is_positive, is_negative}
use Rattle.form.proofs.words.is_negative.Goals as goal

pub returns-then-w-lt1 : goal.returns-then-w-lt1
unfolding is_negative
returns-then-w-lt1 c =
    let w = c.args.w.now in
    sym (ap (λ (b : ℕ). eqb b 45 && is_positive (drop 1 w)) (get_or-eq_default w 0 {n = 0} (omega arith)))

pub returns : goal.returns
unfolding is_negative
returns c =
    let w = c.args.w.now in
    ap (λ (t : Bool). eqb (get_or w 0 0) 45 && t) (c.is_positive.ensures ∙ ap is_positive (take_all (length w - 1) (drop 1 w) (omega (arith, length-drop 1 w))))
