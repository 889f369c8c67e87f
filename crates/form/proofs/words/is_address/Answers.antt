-- `form::words::is_address` meets its contract: its length and its digits.
use mathlib.Core.Path.{ap}
use mathlib.Core.Bool.{Bool, ◌&&◌}
use lib.Dec.{eqb}
use lib.ListN.{length}
use Rattle.form.specs.Form.{is_address, all}
use Rattle.form.proofs.words.is_address.Goals as goal

pub returns : goal.returns
unfolding is_address all
returns c = ap (λ (t : Bool). eqb (length c.args.w.now) 6 && t) c.all_hex_digits.ensures
