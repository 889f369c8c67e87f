-- Worked positions at the edges of 8, 10, 270 degrees and a turn, of fine counts and of coarse, and beside the right answers the wrong ones that the slips of RULES 1.8 would give: each computed, so each holds by `refl`.
-- Assumes nothing.
use Rattle.std.specs.Prelude.{Ok, Err}
use mathlib.Core.Path.{◌≡◌, refl}
use Prim.Native.Nat.{ℕ, suc, ◌-◌, ◌*◌, ◌/◌}
use lib.IntN.{ℤ, pos, negsuc, neg_ℤ, ◌+ℤ◌, ◌*ℤ◌}
use Rattle.refusals.specs.declared.Refusal.TheVariants.{Field, Zones}
use Rattle.positions.specs.declared.Spot.{Spot}
use Rattle.positions.specs.declared.Turn.TheVariants.{Airborne, Surface}
use Rattle.positions.specs.declared.Format.TheVariants.{Even, Odd}
use Rattle.positions.specs.declared.Counts.{Counts}
use Rattle.positions.specs.Whole.{floor, modulo, nearest}
use Rattle.positions.specs.Zones.{latitudes, first, zone_count}
use Rattle.positions.specs.Positions.{units, longitude_zones, all_round, whole, count, spot_zones, counts_of, encoded, rounded, rounded_turn, inside, pair_zone, in_zone, less360, pair_latitude, pair_longitude, pair_nl, pair_spot, pair_found, paired, near_zone, near, near_spot, near_found, singly}

abbrev spot : ℤ → ℕ → Spot
spot y x = record { latitude = y; longitude = x }

abbrev counts : ℕ → ℕ → Counts
counts y x = record { latitude = record { 0 = y }; longitude = record { 0 = x } }

-- a count of 131,072 and a latitude past the pole are 8, and at an edge of NL a pair is 10
pub refused :
    (paired 131072 (counts 131072 0) (counts 65536 0) Odd ≡ Err Field)
    × (singly 131072 (spot (pos 1073741825) 0) (counts 0 0) Surface Even ≡ Err Field)
    × (encoded 131072 (spot (negsuc 1073741824) 0) Airborne Even ≡ Err Field)
    × (paired 131072 (counts 97659 0) (counts 93846 0) Odd ≡ Err Zones)
unfolding floor modulo nearest latitudes first zone_count all_round whole count spot_zones counts_of rounded rounded_turn inside pair_zone in_zone less360 pair_latitude pair_longitude pair_nl pair_spot pair_found near_zone near near_spot near_found
refused = (refl, refl, refl, refl)

-- NL of the unrounded latitude: 124917351 lies below the first edge and is rounded above it, so the longitude count is 65536, not 98304
pub not_unrounded :
    ((counts_of 131072 (spot (pos 124917351) 1073741824) Airborne Even).longitude.0 ≡ 65536)
    × (count 131072 (longitude_zones Even (zone_count units (pos 124917351))) (pos 1073741824) ≡ 98304)
unfolding floor modulo nearest latitudes first zone_count all_round whole count spot_zones counts_of
not_unrounded = (refl, refl)

-- division toward zero: just south of the equator the even latitude count of -546 is 131071, not 0
abbrev toward_zero : ℤ → ℕ → ℤ
toward_zero (pos a) d = pos (a / d)
toward_zero (negsuc a) d = neg_ℤ (pos (suc a / d))

pub not_toward_zero :
    (count 131072 60 (negsuc 545) ≡ 131071)
    × (modulo (toward_zero (pos 2 *ℤ (negsuc 545 *ℤ pos (60 * 131072)) +ℤ pos units) (2 * units)) 131072 ≡ 0)
unfolding floor modulo nearest whole count
not_toward_zero = (refl, refl)

-- one addition for m mod n: counts 0 even and 131071 odd have m = -59 at the equator; with 58 odd zones that is zone 57, and one addition leaves -1
pub not_one_addition :
    (pair_zone 131072 59 0 131071 ≡ negsuc 58)
    × (modulo (pair_zone 131072 59 0 131071) 58 ≡ 57)
    × (pair_zone 131072 59 0 131071 +ℤ pos 58 ≡ negsuc 0)
    × (paired 131072 (counts 0 0) (counts 0 131071) Odd ≡ Ok (spot (pos 0) 4294966731))
unfolding floor modulo nearest latitudes first zone_count rounded rounded_turn inside pair_zone in_zone less360 pair_latitude pair_longitude pair_nl pair_spot pair_found
not_one_addition = (refl, refl, refl, refl)

-- above 270 for from 270 up: the south pole is 270 degrees exactly, and is a latitude, not 9
pub from_270 :
    (encoded 131072 (spot (negsuc 1073741823) 0) Airborne Even ≡ Ok (counts 0 0))
    × (encoded 131072 (spot (negsuc 1073741823) 0) Airborne Odd ≡ Ok (counts 32768 0))
    × (paired 131072 (counts 0 0) (counts 32768 0) Even ≡ Ok (spot (negsuc 1073741823) 0))
    × (paired 131072 (counts 0 0) (counts 32768 0) Odd ≡ Ok (spot (negsuc 1073741823) 0))
unfolding floor modulo nearest latitudes first zone_count all_round whole count spot_zones counts_of rounded rounded_turn inside pair_zone in_zone less360 pair_latitude pair_longitude pair_nl pair_spot pair_found
from_270 = (refl, refl, refl, refl)

-- the north pole is a latitude too: a reference there finds it
pub pole_itself : singly 131072 (spot (pos 1073741824) 0) (counts 0 0) Airborne Even ≡ Ok (spot (pos 1073741824) 0)
unfolding floor modulo nearest latitudes first zone_count all_round whole count rounded rounded_turn inside near_zone near near_spot near_found
pole_itself = refl

-- the first entry above for the first not below: 87 degrees exactly is an entry, and has 2 zones; one even count more has 1
pub not_first_above : (zone_count (60 * 131072) (pos 1900544) ≡ 2) × (zone_count (60 * 131072) (pos 1900545) ≡ 1)
unfolding latitudes first zone_count
not_first_above = (refl, refl)

-- the last longitudes of all: of 59 zones in the air, by a pair and singly, 555 units short of a turn; of 236 on the surface 139; of one zone 32,768 and 8,192
pub last_longitudes :
    (paired 131072 (counts 0 131071) (counts 0 131071) Even ≡ Ok (spot (pos 0) 4294966741))
    × (singly 131072 (spot (pos 0) 0) (counts 0 131071) Airborne Even ≡ Ok (spot (pos 0) 4294966741))
    × (singly 131072 (spot (pos 0) 0) (counts 0 131071) Surface Even ≡ Ok (spot (pos 0) 4294967157))
    × (singly 131072 (spot (pos 1073741824) 0) (counts 0 131071) Airborne Even ≡ Ok (spot (pos 1073741824) 4294934528))
    × (singly 131072 (spot (pos 1073741824) 0) (counts 0 131071) Surface Even ≡ Ok (spot (pos 1073741824) 4294959104))
unfolding floor modulo nearest latitudes first zone_count all_round rounded rounded_turn inside pair_zone in_zone less360 pair_latitude pair_longitude pair_nl pair_spot pair_found near_zone near near_spot near_found
last_longitudes = (refl, refl, refl, refl, refl)

-- coarse counts: 45 degrees north and 90 east, encoded both ways, paired and read singly
pub coarse_place :
    (encoded 4096 (spot (pos 536870912) 1073741824) Airborne Even ≡ Ok (counts 2048 2048))
    × (encoded 4096 (spot (pos 536870912) 1073741824) Airborne Odd ≡ Ok (counts 1536 1024))
    × (paired 4096 (counts 2048 2048) (counts 1536 1024) Odd ≡ Ok (spot (pos 536870912) 1073741824))
    × (singly 4096 (spot (pos 536870912) 1073741824) (counts 1536 1024) Airborne Odd ≡ Ok (spot (pos 536870912) 1073741824))
unfolding floor modulo nearest latitudes first zone_count all_round whole count spot_zones counts_of rounded rounded_turn inside pair_zone in_zone less360 pair_latitude pair_longitude pair_nl pair_spot pair_found near_zone near near_spot near_found
coarse_place = (refl, refl, refl, refl)

-- 4,096 is 8; 4,095 of 59 zones is the last longitude, 17,772 units short of a turn
pub coarse_ends :
    (paired 4096 (counts 0 4096) (counts 0 4095) Even ≡ Err Field)
    × (singly 4096 (spot (pos 0) 0) (counts 0 4096) Airborne Even ≡ Err Field)
    × (paired 4096 (counts 0 4095) (counts 0 4095) Even ≡ Ok (spot (pos 0) 4294949524))
    × (singly 4096 (spot (pos 0) 0) (counts 0 4095) Airborne Even ≡ Ok (spot (pos 0) 4294949524))
unfolding floor modulo nearest latitudes first zone_count all_round rounded rounded_turn inside pair_zone in_zone less360 pair_latitude pair_longitude pair_nl pair_spot pair_found near_zone near near_spot near_found
coarse_ends = (refl, refl, refl, refl)

-- coarse counts as they are, or times 16, for times 32: the pair of 45 degrees north would lie elsewhere
pub not_sixteen :
    (paired 131072 (counts (2048 * 32) (2048 * 32)) (counts (1536 * 32) (1024 * 32)) Even ≡ Ok (spot (pos 536870912) 1073741824))
    × (paired 131072 (counts (2048 * 16) (2048 * 16)) (counts (1536 * 16) (1024 * 16)) Even ≡ Ok (spot (pos 304226850) 576639128))
    × (paired 131072 (counts 2048 2048) (counts 1536 1024) Even ≡ Ok (spot (pos 1118481) 1137438))
unfolding floor modulo nearest latitudes first zone_count rounded rounded_turn inside pair_zone in_zone less360 pair_latitude pair_longitude pair_nl pair_spot pair_found
not_sixteen = (refl, refl, refl)

-- the fine count without its last five bits for the coarse count: 16 of 2^17 are half a count of 2^12, and that rounds up
pub not_cut_off : (count 131072 60 (pos 8739) ≡ 16) × (count 4096 60 (pos 8739) ≡ 1)
unfolding floor modulo nearest whole count
not_cut_off = (refl, refl)

-- a circle of 2^33 counts would be too fine: its last count is half a unit short, and rounds to a turn
pub half_a_unit_is_needed : rounded_turn (2 * units) (2 * units - 1) ≡ units
unfolding floor nearest rounded rounded_turn
half_a_unit_is_needed = refl
