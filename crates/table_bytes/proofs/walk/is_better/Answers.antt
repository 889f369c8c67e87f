-- `table_bytes::walk::is_better` meets its contract: its tests are the definition's.
use mathlib.Core.Path.{ap}
use Rattle.rules.specs.Search.{beats}
use Rattle.table_bytes.proofs.walk.is_better.Goals as goal

pub returns : goal.returns
returns c =
    let a = c.args in
    ap (beats a.above a.best) c.get4-key.ensures
