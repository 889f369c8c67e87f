-- `degrees::guess` meets its contract: on either side of zero, by the count of 360s.
use Rattle.std.proofs.Common.{sym, ◌∙◌, arith, to_z-of_z, w32}
use lib.Ieee.{of_bits}
use mir.Facts.{to_z_pos}
use Rattle.degrees.proofs.Sides.{south, north}
use Rattle.degrees.proofs.guess.Goals as goal

pub returns-then-k-eq0 : goal.returns-then-k-eq0
unfolding of_bits
returns-then-k-eq0 c n h e =
    let s = south c.args.x c.count-k.result c.if-y.true c.count-k.ensures n h e in
    absurd (omega (arith, s.1, c.if-k-eq0.true))

pub returns-then-k-le2147483648 : goal.returns-then-k-le2147483648
unfolding of_bits
returns-then-k-le2147483648 c n h e =
    let s = south c.args.x c.count-k.result c.if-y.true c.count-k.ensures n h e in
    to_z-of_z {w = w32} (record { sfits = c.minus.type_inv }) ∙ c.minus.ensures ∙ sym s.0

pub returns-then-y : goal.returns-then-y
unfolding of_bits
returns-then-y c n h e =
    let s = south c.args.x c.count-k.result c.if-y.true c.count-k.ensures n h e in
    absurd (omega (arith, s.2, c.if-k-le2147483648.false))

pub returns-then-k-lt2147483648 : goal.returns-then-k-lt2147483648
unfolding of_bits
returns-then-k-lt2147483648 c n h e =
    let s = north c.args.x c.count-k-2.result c.if-y.false c.count-k-2.ensures n h e in
    to_z_pos w32 {n = c.count-k-2.result} s.1 ∙ sym s.0

pub returns : goal.returns
unfolding of_bits
returns c n h e =
    let s = north c.args.x c.count-k-2.result c.if-y.false c.count-k-2.ensures n h e in
    absurd (omega (arith, s.1, c.if-k-lt2147483648.false))
