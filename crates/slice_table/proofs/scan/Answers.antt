-- `slice_table::scan` meets its contract: each turn visits one place more.
use Rattle.slice_table.proofs.Scanned.{scanned_none, scanned_read}
use Rattle.slice_table.proofs.scan.Goals as goal

pub loop-i-init : goal.loop-i-init
loop-i-init c = scanned_none c.args.places.now c.args.s

pub loop-i-preserved : goal.loop-i-preserved
loop-i-preserved c = rw (c.visit-found.ensures, c.loop-i.invariant) (scanned_read c.args.places.now c.args.s c.loop-i.i _ c.loop-i-test.true)
