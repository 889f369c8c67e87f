-- `positions::zone_count` meets its contract: the place that the library's search finds is the number of entries below the latitude.
use Rattle.positions.proofs.Latitudes.{search_is}
use Rattle.positions.proofs.zone_count.Goals as goal

pub returns : goal.returns
returns c = search_is c.args.k c.in-Ok.i c.code_table.result.now c.binary_search.result c.code_table.ensures c.binary_search.ensures.position c.in-Ok.is
