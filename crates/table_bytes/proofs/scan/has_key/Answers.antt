-- `table_bytes::scan::has_key` meets its contract: where the keys differ the place does not hold the key.
use mathlib.Core.Path.{◌∙◌}
use borrow.Author.Tests.{ne_eqb}
use Rattle.table_bytes.proofs.Scanned.{key_yes, key_no}
use Rattle.table_bytes.proofs.scan.has_key.Goals as goal

pub returns-then-get4-key : goal.returns-then-get4-key
returns-then-get4-key c = key_yes _ _ _ _ c.get4.ensures _ c.if-get4-key.true c.body.ensures.0 c.is_held.ensures

pub returns-else-get4-key : goal.returns-else-get4-key
returns-else-get4-key c = ne_eqb _ _ c.if-get4-key.false ∙ key_no _ _ _ _ c.get4.ensures _ c.if-get4-key.false
