-- `merge::key::address_of` meets its contract: digit by digit.
use native.Mathlib.Omega.{arith}
use mathlib.Core.Path.{ap, ◌∙◌}
use Rattle.merge.specs.Merged.{hex_value, address_of}
use Rattle.merge.proofs.key.address_of.Goals as goal

pub returns : goal.returns
unfolding address_of
returns c =
    let e1 = c.hex_value-n.ensures.value ∙ ap hex_value c.byte_at.ensures in
    let e2 = c.hex_value.ensures.value ∙ ap hex_value c.byte_at-2.ensures in
    let e3 = c.hex_value-2.ensures.value ∙ ap hex_value c.byte_at-3.ensures in
    let e4 = c.hex_value-3.ensures.value ∙ ap hex_value c.byte_at-4.ensures in
    let e5 = c.hex_value-4.ensures.value ∙ ap hex_value c.byte_at-5.ensures in
    let e6 = c.hex_value-5.ensures.value ∙ ap hex_value c.byte_at-6.ensures in
    omega (arith, e1, e2, e3, e4, e5, e6)
