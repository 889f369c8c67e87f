-- Each question of the examples that RULES 1.10 names has the answer beside it: both sides are computed, example by example.
-- Assumes nothing.
use mathlib.Core.Path.{◌≡◌, refl}
use mathlib.Core.List.{map}
use Rattle.readings.specs.Altitude.{altitude_of, altitude_at, six_less, straight, five_hundreds, hundreds, gray_step}
use Rattle.readings.specs.Code.{by_hundreds}
use Rattle.readings.specs.Amounts.{speed_of, speed_at, rate_of, rate_at, amount, signed, times}
use Rattle.positions.specs.Whole.{floor, modulo, nearest}
use Rattle.positions.specs.Zones.{latitudes, first, zone_count}
use Rattle.positions.specs.Positions.{all_round, whole, count, spot_zones, counts_of, rounded, rounded_turn, inside, pair_zone, in_zone, less360, pair_latitude, pair_longitude, pair_nl, pair_spot, pair_found, near_zone, near, near_spot, near_found}
use Rattle.parity.specs.Division.{reduce, remainder_from}
use Rattle.parity.specs.Parity.{remainder}
use Rattle.messages.specs.Message.{opened}
use Rattle.starred.specs.Examples.{answer, answer_to, due, examples}

pub starred : map answer_to examples ≡ map due examples
unfolding answer examples
    altitude_of altitude_at by_hundreds six_less straight five_hundreds hundreds gray_step speed_of speed_at rate_of rate_at amount signed times
    floor modulo nearest latitudes first zone_count all_round whole count spot_zones counts_of rounded rounded_turn inside
    pair_zone in_zone less360 pair_latitude pair_longitude pair_nl pair_spot pair_found near_zone near near_spot near_found
    reduce remainder_from remainder opened
starred = refl
