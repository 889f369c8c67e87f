-- `text::put_field` meets its contract: the label, then the number.
use native.Mathlib.Omega.{arith}
use Rattle.text.specs.Lines.{field}
use Rattle.text.proofs.Buffer.{wrote_then}
use Rattle.text.proofs.put_field.Goals as goal

pub returns : goal.returns
unfolding field
returns c = record { wrote = wrote_then c.put_text-a.ensures c.put_decimal.ensures.wrote; upper_bound = omega (arith, c.put_text-a.ensures.next) }
