-- `positions::single_raised` meets its contract: each return is an answer of the definition, by the tests that lead there.
use Prim.Native.Nat.{◌+◌, ◌*◌}
use mathlib.Core.Path.{◌≡◌}
use lib.Dec.{lit<}
use lib.IntN.{sub_ℕ}
use Rattle.positions.specs.Positions.{near}
use Rattle.positions.proofs.Naturals.{near_is}
use Rattle.positions.proofs.Latitudes.{zoned}
use Rattle.positions.proofs.Answers.{spot, near_far, near_south, near_north, near_found_lem}
use Rattle.positions.proofs.single_raised.Goals as goal

pub returns-then-y-m : goal.returns-then-y-m
returns-then-y-m c =
    let a = c.args in
    let z = c.all_round-z.result in
    let y = c.near_latitude_zone-zone.result.0 * 131072 + a.counts.latitude.0 in
    let found : near 131072 z (sub_ℕ a.up 4294967296) a.counts.latitude.0 ≡ sub_ℕ y (z * 131072) =
    near_is 131072 z z c.near_latitude_zone-zone.result.0 a.counts.latitude.0 (sub_ℕ a.up 4294967296) (lit< tt) c.near_latitude_zone-zone.ensures.0 in
    rw (← c.latitude_zones.ensures.0, ← c.all_round-z.ensures.0)
    (near_far z y (spot (sub_ℕ a.up 4294967296) a.longitude) a.counts a.turn a.format found c.if-y-m.true)

pub zone_count_at-requires : goal.zone_count_at-requires
zone_count_at-requires c =
    let a = c.args in
    let z = c.all_round-z.result in
    let y = c.near_latitude_zone-zone.result.0 * 131072 + a.counts.latitude.0 in
    let found : near 131072 z (sub_ℕ a.up 4294967296) a.counts.latitude.0 ≡ sub_ℕ y (z * 131072) =
    near_is 131072 z z c.near_latitude_zone-zone.result.0 a.counts.latitude.0 (sub_ℕ a.up 4294967296) (lit< tt) c.near_latitude_zone-zone.ensures.0 in
    let south = near_south z y (spot (sub_ℕ a.up 4294967296) a.longitude) a.counts a.turn a.format found c.if-y-m.false in
    let north = near_north z y (spot (sub_ℕ a.up 4294967296) a.longitude) a.counts a.turn a.format found c.if-y-m.false in
    (rw (c.all_round-z.ensures.0, c.latitude_zones.ensures.0) (zoned a.turn a.format), record { south = south; north = north })

pub returns : goal.returns
returns c =
    let a = c.args in
    let z = c.all_round-z.result in
    let y = c.near_latitude_zone-zone.result.0 * 131072 + a.counts.latitude.0 in
    let found : near 131072 z (sub_ℕ a.up 4294967296) a.counts.latitude.0 ≡ sub_ℕ y (z * 131072) =
    near_is 131072 z z c.near_latitude_zone-zone.result.0 a.counts.latitude.0 (sub_ℕ a.up 4294967296) (lit< tt) c.near_latitude_zone-zone.ensures.0 in
    rw (← c.latitude_zones.ensures.0, ← c.all_round-z.ensures.0)
    (near_found_lem z y (spot (sub_ℕ a.up 4294967296) a.longitude) a.counts a.turn a.format found c.if-y-m.false c.zone_count_at.result c.longitude_zones.result c.all_round-n.result c.zone_count_at.ensures.0 c.longitude_zones.ensures.0 c.all_round-n.ensures.0 c.near_spot.result c.near_spot.ensures)
