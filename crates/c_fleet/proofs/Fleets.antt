-- A fleet of tables, of the calls from C: what a table is dealt is sparse of the stream for each key that goes there.
-- Assumes nothing.
use Rattle.fleet.proofs.Fleet.{dealt_sparse}
use Rattle.c_fleet.specs.Fleets.{FleetIsOne}
use Rattle.c_fleet.proofs.Sides.{side_by_side}

pub fleet_is_one : FleetIsOne
fleet_is_one which site stream backs one deal dealBacks tables dealt key e =
    side_by_side key site stream (deal (which key)) backs (dealBacks (which key)) one (tables (which key)) (dealt_sparse which key (dealt (which key)) e)
