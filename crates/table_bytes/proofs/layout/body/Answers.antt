-- `table_bytes::layout::body` meets its contract: the part is the definition's.
use native.Mathlib.Omega.{arith}
use lib.ListN.{length-take, length-drop}
use Rattle.table_bytes.proofs.Parts.{body_part}
use Rattle.table_bytes.proofs.layout.body.Goals as goal

pub returns : goal.returns
returns c = (body_part _ _ _, simp (length-take, length-drop) (omega arith))
