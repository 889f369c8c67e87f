-- `degrees::units_of` meets its contract: equal patterns are equal doubles, and the figure of the guess is the only one that the double can be.
use Rattle.std.proofs.Common.{◌≡◌, Bool, true, not, T, sym, ap, ◌∙◌, subst, to_z-of_z, w32, SFits}
use lib.Signed.{nat_abs-le}
use lib.Ieee.{Float, binary64, to_bits, fits, is_nan}
use Rattle.degrees.specs.Value.{Exactly, degrees_of}
use Rattle.degrees.proofs.Exact.{exactly, degrees_fits}
use Rattle.degrees.proofs.Alone.{only, same_bits}
use Rattle.degrees.proofs.Sides.{valued}
use Rattle.degrees.proofs.units_of.Goals as goal

pub returns-then-is_nan : goal.returns-then-is_nan
returns-then-is_nan c n h v =
    let e : is_nan c.args.x ≡ true = sym c.is_nan.ensures.value ∙ c.if-is_nan.true in
    subst (λ (b : Bool). T (not b)) e (valued c.args.x n v)

pub float_to_bits-due : goal.float_to_bits-due
float_to_bits-due c =
    let n = c.guess-n.result in
    let ranged : SFits w32 n = record { sfits = c.guess-n.type_inv } in
    let e : c.figure-y.result ≡ degrees_of n = c.figure-y.ensures ∙ ap degrees_of (to_z-of_z ranged) in
    let f : Exactly c.figure-y.result n = subst (λ (z : Float). Exactly z n) (sym e) (exactly n (nat_abs-le n ranged.sfits)) in
    valued c.figure-y.result n f

pub returns-then-given-due : goal.returns-then-given-due
returns-then-given-due c =
    let x = c.args.x in
    let given : T (fits binary64 x) = subst T (sym c.well_formed.0.1) tt in
    let n = c.guess-n.result in
    let ranged : SFits w32 n = record { sfits = c.guess-n.type_inv } in
    let e : c.figure-y.result ≡ degrees_of n = c.figure-y.ensures ∙ ap degrees_of (to_z-of_z ranged) in
    let f : Exactly c.figure-y.result n = subst (λ (z : Float). Exactly z n) (sym e) (exactly n (nat_abs-le n ranged.sfits)) in
    rw (to_z-of_z ranged) (ranged.sfits, subst (λ (z : Float). Exactly z n) (sym (same_bits binary64 x c.figure-y.result given (subst (λ (z : Float). T (fits binary64 z)) (sym e) (degrees_fits n)) c.if-given-due.true)) f)

pub returns-else-given-due : goal.returns-else-given-due
returns-else-given-due c n h v =
    let x = c.args.x in
    let given : T (fits binary64 x) = subst T (sym c.well_formed.0.1) tt in
    let ranged : SFits w32 c.guess-n.result = record { sfits = c.guess-n.type_inv } in
    let e : x ≡ degrees_of n = only x n (nat_abs-le n h) given v in
    let f : c.figure-y.result ≡ degrees_of c.guess-n.result = c.figure-y.ensures ∙ ap degrees_of (to_z-of_z ranged) in
    c.if-given-due.false (ap (to_bits binary64) (e ∙ ap degrees_of (sym (c.guess-n.ensures n h e)) ∙ sym f))
