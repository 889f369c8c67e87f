-- `entries::arrays::entry_or` meets its contract: past the end the default is what it was given.
use mathlib.Core.Path.{sym}
use lib.ListN.{get_or-eq_default}
use Rattle.entries.proofs.arrays.entry_or.Goals as goal

pub returns-else-i-values : goal.returns-else-i-values
returns-else-i-values g c = sym (get_or-eq_default c.args.values.now c.args.rest c.if-i-values.false)
