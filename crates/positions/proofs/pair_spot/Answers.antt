-- `positions::pair_spot` meets its contract: each part is the one that the definition names.
use native.Mathlib.Omega.{arith}
use mir.Facts.{to_z-of_z}
use mir.Syntax.{w32}
use mathlib.Core.Path.{◌≡◌, ap, ◌∙◌}
use Rattle.counts.specs.declared.LongitudeCount.{LongitudeCount}
use Rattle.positions.specs.Positions.{own}
use Rattle.positions.proofs.Answers.{own_small, own_by, pair_spot_lem}
use Rattle.positions.proofs.pair_spot.Goals as goal

pub longitude_out-longitude-requires : goal.longitude_out-longitude-requires
longitude_out-longitude-requires c =
    let a = c.args in
    let own_is : c.own.result.0 ≡ own a.format a.even.0 a.odd.0 = ap (λ (x : LongitudeCount). x.0) c.own.ensures ∙ own_by (λ (x : LongitudeCount). x.0) a.format a.even a.odd in
    (c.pair_longitude_zone-zone.ensures.1, (rw own_is (own_small a.format (omega arith) (omega arith)), omega arith))

pub returns : goal.returns
returns c =
    let a = c.args in
    let own_is : c.own.result.0 ≡ own a.format a.even.0 a.odd.0 = ap (λ (x : LongitudeCount). x.0) c.own.ensures ∙ own_by (λ (x : LongitudeCount). x.0) a.format a.even a.odd in
    pair_spot_lem a.format a.up a.nl a.even.0 a.odd.0 c.latitude_zones.result c.longitude_zones-n.result c.pair_longitude_zone-zone.result.0 c.own.result.0
    c.latitude_zones.ensures.0 c.longitude_zones-n.ensures.0 c.pair_longitude_zone-zone.ensures.0 own_is
    (to_z-of_z {w = w32} (record { sfits = c.latitude_out-latitude.type_inv }) ∙ c.latitude_out-latitude.ensures)
    c.longitude_out-longitude.ensures
