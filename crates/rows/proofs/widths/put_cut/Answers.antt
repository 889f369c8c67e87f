-- `rows::widths::put_cut` meets its contract: what was cut fills the array.
use mathlib.Core.Path.{ap, ◌∙◌}
use lib.ListN.{length}
use Rattle.entries.specs.Arrays.{filled}
use Rattle.rows.proofs.widths.put_cut.Goals as goal

pub returns : goal.returns
returns c = c.fill.ensures ∙ ap (filled (length c.args.out.now)) c.cut-f.ensures
