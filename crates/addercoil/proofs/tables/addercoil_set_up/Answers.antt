-- `addercoil::tables::addercoil_set_up` meets its contract: the number of what the table answers, and the table that it leaves.
use Rattle.addercoil.specs.Done.{done_number}
use Rattle.addercoil.specs.Tables.{set_up_sent}
use Rattle.addercoil.proofs.Ways.{left_as}
use Rattle.addercoil.proofs.tables.addercoil_set_up.Goals as goal

pub returns : goal.returns
unfolding set_up_sent
returns c = left_as done_number c.done_number.ensures c.set_up.ensures
