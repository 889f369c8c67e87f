-- `text::numbers::put_signed` meets its contract: by the test of the sign.
use lib.IntN.{ℤ, pos, nat_abs}
use lib.Signed.{lt_z}
use mir.Facts.{to_z-of_z}
use mathlib.Core.Path.{sym, ap, ◌∙◌}
use native.Mathlib.Omega.{arith}
use Rattle.text.proofs.Buffer.{wrote_then, wrote_as}
use Rattle.text.proofs.Digits.{signed_below, signed_above}
use Rattle.text.proofs.numbers.put_signed.Goals as goal

pub returns-then-is_below : goal.returns-then-is_below
returns-then-is_below c =
    let p = c.put_byte-a.ensures in
    let e = to_z-of_z c.ranges.z in
    record {
      wrote = wrote_as (wrote_then p c.put_decimal.ensures.wrote) (signed_below _ _ (c.size_of-n.ensures ∙ ap nat_abs e) (sym (c.is_below.ensures ∙ ap (λ (x : ℤ). lt_z x (pos 0)) e) ∙ c.if-is_below.true));
      upper_bound = omega (arith, p.next);
    }

pub returns : goal.returns
returns c =
    let e = to_z-of_z c.ranges.z in
    record {
      wrote = wrote_as c.put_decimal-2.ensures.wrote (signed_above _ _ (c.size_of-n.ensures ∙ ap nat_abs e) (sym (c.is_below.ensures ∙ ap (λ (x : ℤ). lt_z x (pos 0)) e) ∙ c.if-is_below.false));
      upper_bound = omega arith;
    }
