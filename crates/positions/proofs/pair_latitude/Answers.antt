-- `positions::pair_latitude` meets its contract: each part is the one that the definition names.
use native.Mathlib.Omega.{arith}
use mathlib.Core.Path.{◌≡◌, ap, ◌∙◌}
use Rattle.counts.specs.declared.LatitudeCount.{LatitudeCount}
use Rattle.positions.specs.Positions.{own}
use Rattle.positions.proofs.Answers.{own_small, own_by, pair_latitude_lem}
use Rattle.positions.proofs.pair_latitude.Goals as goal

pub latitude_in-requires : goal.latitude_in-requires
latitude_in-requires c =
    let a = c.args in
    let own_is : c.own.result.0 ≡ own a.format a.even.0 a.odd.0 = ap (λ (x : LatitudeCount). x.0) c.own.ensures ∙ own_by (λ (x : LatitudeCount). x.0) a.format a.even a.odd in
    (c.pair_latitude_zone-zone.ensures.1, (rw own_is (own_small a.format (omega arith) (omega arith)), omega arith))

pub returns : goal.returns
returns c =
    let a = c.args in
    let own_is : c.own.result.0 ≡ own a.format a.even.0 a.odd.0 = ap (λ (x : LatitudeCount). x.0) c.own.ensures ∙ own_by (λ (x : LatitudeCount). x.0) a.format a.even a.odd in
    pair_latitude_lem a.format a.even.0 a.odd.0 c.latitude_zones-z.result c.pair_latitude_zone-zone.result.0 c.own.result.0 c.latitude_in.result
    c.latitude_zones-z.ensures.0 c.pair_latitude_zone-zone.ensures.0 own_is c.latitude_in.ensures
