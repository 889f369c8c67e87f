-- `addercoil::tables::addercoil_receive` meets its contract: the number of what the table answers, and the table that it leaves.
use Rattle.addercoil.specs.Done.{done_number}
use Rattle.addercoil.specs.Tables.{received_sent}
use Rattle.addercoil.proofs.Ways.{left_as}
use Rattle.addercoil.proofs.tables.addercoil_receive.Goals as goal

pub returns : goal.returns
unfolding received_sent
returns c = left_as done_number c.done_number.ensures c.hear.ensures
