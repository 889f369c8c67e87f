-- `table_bytes::scan::target_of` meets its contract: its two ways out are the definition's.
use Rattle.table_bytes.specs.Layout.{place_at}
use Rattle.table_bytes.proofs.Scanned.{target_held, target_free}
use Rattle.table_bytes.proofs.scan.target_of.Goals as goal

pub returns-then-i-n : goal.returns-then-i-n
returns-then-i-n c =
    let a = c.args in
    target_held (place_at a.s.now a.n) a.n a.clock a.key c.find_key-i.ensures c.if-i-n.true

pub returns : goal.returns
returns c =
    let a = c.args in
    target_free (place_at a.s.now a.n) a.n a.clock a.key c.find_key-i.ensures c.if-i-n.false c.find_free.ensures
