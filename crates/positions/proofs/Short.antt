-- No longitude is a turn: an exact one is short of a turn by a count or more, and of a circle of M counts a count is 2^32 / M units, more than half a unit where M is
-- below 2^33. So rounded to nearest it is still short, and nothing need bring it back into the circle.
-- Assumes nothing.
use Rattle.std.specs.Prelude.{Result, Err}
use mathlib.Core.Path.{◌≡◌, refl}
use mathlib.Core.Bool.{◌&&◌}
use Prim.Native.Nat.{ℕ, suc, ◌+◌, ◌-◌, ◌*◌, ◌/◌, ◌≤◌, ◌<◌}
use native.Mathlib.Nat.{add-mul, add-mul-div_right, mul-le-mul, mul-le-mul_left, mul-le-mul_right, div-lt_iff_lt-mul}
use native.Mathlib.Omega.{arith}
use lib.Dec.{eqb}
use lib.IntN.{pos}
use Rattle.refusals.specs.declared.Refusal.TheVariants.{Field, Latitude, Zones}
use Rattle.positions.specs.declared.Spot.{Spot}
use Rattle.positions.specs.declared.Turn.{Turn}
use Rattle.positions.specs.declared.Turn.TheVariants.{Airborne, Surface}
use Rattle.positions.specs.declared.Format.{Format}
use Rattle.positions.specs.declared.Format.TheVariants.{Even, Odd}
use Rattle.positions.specs.declared.Size.{Size}
use Rattle.positions.specs.declared.Size.TheVariants.{Fine, Coarse}
use Rattle.positions.specs.declared.Counts.{Counts}
use Rattle.positions.specs.Whole.{floor, modulo, nearest}
use Rattle.positions.specs.Zones.{zone_count}
use Rattle.positions.specs.Code.{nearestℕ}
use Rattle.positions.specs.Positions.{units, count_size, own, latitude_zones, longitude_zones, all_round, pole_to_pole, rounded, rounded_turn, inside, pair_zone, in_zone, pair_latitude, pair_longitude, pair_nl, pair_spot, pair_found, fit, paired, near, near_spot, near_found, singly}
use Rattle.positions.specs.Rounded.{ShortBy, Room, Handed, HandedBy, pair_zones, pair_exact, single_zones, single_exact, last_short}
use Rattle.fields.proofs.Bools.{each, by_test}
use Rattle.positions.proofs.Shift.{modulo_lt}
use Rattle.positions.proofs.Latitudes.{zones_range}
use Rattle.positions.proofs.Naturals.{rounded_turn_lem}
use Rattle.positions.proofs.Answers.{own_small, fit_counts}
use Rattle.refusals.specs.declared.Refusal.{Refusal}

-- ---- a circle of any size

-- short by more than h halves of a unit, where a count is more than these
pub short_by : (h M r : ℕ) → r < M → h * M < 2 * units → ShortBy h M r
short_by h M r l g = omega (arith, mul-le-mul_right units l)

-- by more than half a unit, of any circle of fewer than 2^33 counts
pub short_of_a_turn : (M r : ℕ) → r < M → M < 2 * units → ShortBy 1 M r
short_of_a_turn M r l g = short_by 1 M r l (omega arith)

-- what is short by more than u units and a half is more than u short when it is handed out
pub still_short : (u M r : ℕ) → ShortBy (2 * u + 1) M r → rounded_turn M r + u < units
unfolding nearestℕ
still_short u M r s =
    let both : (2 * u + 1) * M ≡ 2 * u * M + 1 * M = add-mul (2 * u) 1 M in
    let some : 0 < 2 * M = omega arith in
    let sum : (2 * (r * units) + M + u * (2 * M)) / (2 * M) ≡ (2 * (r * units) + M) / (2 * M) + u = add-mul-div_right (2 * (r * units) + M) u some in
    rw (rounded_turn_lem M r) (omega (arith, (div-lt_iff_lt-mul {k = 2 * M} {x = 2 * (r * units) + M + u * (2 * M)} {y = units} some).1 (omega arith)))

-- and that is all that is done to it
pub only_rounded : (M r : ℕ) → pos (rounded_turn M r) ≡ rounded M (pos r)
unfolding rounded_turn rounded nearest floor
only_rounded M r = refl

-- ---- zones and counts

-- of N zones and counts of P, the last count of the last zone is a count short
pub in_turn_lem : (P N zone c : ℕ) → zone < N → c < P → zone * P + c < N * P
in_turn_lem P N zone c l s = omega (arith, mul-le-mul_right P l)

-- whatever the count size: no longitude that is handed out is a turn, of circles of fewer than 2^33 counts
pub never_a_turn : (P N zone c : ℕ) → zone < N → c < P → N * P < 2 * units → rounded_turn (N * P) (zone * P + c) < units
never_a_turn P N zone c l s g = omega (arith, still_short 0 (N * P) (zone * P + c) (short_of_a_turn (N * P) (zone * P + c) (in_turn_lem P N zone c l s) g))

-- the figure, of counts of 2^17 and n zones to a turn, up to 59: in the air more than 555 units, on the surface, where 4 n zones make 360 degrees, more than 138 and a half
pub airborne_short : (n zone c : ℕ) → n ≤ 59 → zone < n → c < 131072 → ShortBy 1110 (n * 131072) (zone * 131072 + c)
airborne_short n zone c m l s = short_by 1110 (n * 131072) (zone * 131072 + c) (in_turn_lem 131072 n zone c l s) (omega arith)

pub surface_short : (n zone c : ℕ) → n ≤ 59 → zone < 4 * n → c < 131072 → ShortBy 277 (4 * n * 131072) (zone * 131072 + c)
surface_short n zone c m l s = short_by 277 (4 * n * 131072) (zone * 131072 + c) (in_turn_lem 131072 (4 * n) zone c l s) (omega arith)

-- of counts of 2^12 more than 17,772 units
pub coarse_short : (n zone c : ℕ) → n ≤ 59 → zone < n → c < 4096 → ShortBy 35544 (n * 4096) (zone * 4096 + c)
coarse_short n zone c m l s = short_by 35544 (n * 4096) (zone * 4096 + c) (in_turn_lem 4096 n zone c l s) (omega arith)

-- ---- what is handed out, at any count size

-- a count is more than u units and a half
module _ (P u : ℕ) where
  handed : (N r : ℕ) → Room P u N → r < N * P → Handed P N r (suc u) (rounded_turn (N * P) r)
  handed N r room l =
      record {
        within = l;
        out = only_rounded (N * P) r;
        short = omega (arith, still_short u (N * P) r (short_by (2 * u + 1) (N * P) r l room));
      }

  -- .. and of fewer zones more
  fewer : (N most : ℕ) → N ≤ most → Room P u most → Room P u N
  fewer N most m room =
      let all : (2 * u + 1) * (N * P) ≤ (2 * u + 1) * (most * P) = mul-le-mul_left (2 * u + 1) (mul-le-mul_right P m) in
      omega arith

-- at most 59 zones in the air, and 236 on the surface
zones_most : (f : Format) (NL : ℕ) → NL ≤ 59 → (0 < longitude_zones f NL) × (longitude_zones f NL ≤ 59)
zones_most Even NL m = (omega arith, omega arith)
zones_most Odd NL m = (omega arith, omega arith)

round_most : (k : Turn) (n : ℕ) → 0 < n → n ≤ 59 → (0 < all_round k n) × (all_round k n ≤ all_round k 59)
unfolding all_round
round_most Airborne n p m = (omega arith, omega arith)
round_most Surface n p m = (omega arith, omega arith)

module _ (P u : ℕ) where
  -- the longitude of every pair
  pub paired_handed : Room P u 59 → (even odd : Counts) (later : Format)
      → HandedBy P (pair_zones P even odd later) (pair_exact P even odd later) (suc u) (paired P even odd later)
  unfolding pair_found pair_spot pair_nl pair_longitude in_zone
  paired_handed room even odd later =
      let a = even.latitude.0 in
      let b = odd.latitude.0 in
      let n = pair_zones P even odd later in
      let Due : Result Spot Refusal → Type 0 = HandedBy P n (pair_exact P even odd later) (suc u) in
      by_test Due (fit P even && fit P odd) (pair_found P even odd later) (Err Field)
      (λ e.
      let t = each (fit P even) (fit P odd) e in
      let z = zones_most later (pair_nl P Even a b) (zones_range (60 * P) (pair_latitude P Even a b)).1 in
      let zone = pair_zone P (pair_nl P Even a b) even.longitude.0 odd.longitude.0 in
      let own-count = own later even.longitude.0 odd.longitude.0 in
      by_test Due (inside (60 * P) (pair_latitude P Even a b) && inside (59 * P) (pair_latitude P Odd a b)) _ (Err Latitude)
      (λ _.
      by_test Due (eqb (pair_nl P Even a b) (pair_nl P Odd a b)) _ (Err Zones)
      (λ _. handed P u n _ (fewer P u n 59 z.1 room) (in_turn_lem P n (modulo zone n) own-count (modulo_lt zone n z.0) (own_small later (fit_counts P even t.0).1 (fit_counts P odd t.1).1)))
      (λ _. tt))
      (λ _. tt))
      (λ _. tt)

  -- and of every message that is read near a reference
  pub singly_handed : (k : Turn) → Room P u (all_round k 59) → 0 < P → (reference : Spot) (c : Counts) (f : Format)
      → HandedBy P (single_zones P reference c k f) (single_exact P reference c k f) (suc u) (singly P reference c k f)
  unfolding near_found near_spot
  singly_handed k room some reference c f =
      let N = all_round k (latitude_zones f) in
      let r = near P N reference.latitude c.latitude.0 in
      let n = single_zones P reference c k f in
      let Due : Result Spot Refusal → Type 0 = HandedBy P n (single_exact P reference c k f) (suc u) in
      by_test Due (fit P c && pole_to_pole reference.latitude) (near_found P N reference c k f) (Err Field)
      (λ _.
      by_test Due (inside (N * P) r) _ (Err Latitude)
      (λ _.
      let NL = zone_count (N * P) r in
      let z = zones_most f NL (zones_range (N * P) r).1 in
      let m = round_most k (longitude_zones f NL) z.0 z.1 in
      handed P u n _ (fewer P u n (all_round k 59) m.1 room) (modulo_lt (near P n (pos reference.longitude) c.longitude.0) (n * P) (omega (arith, mul-le-mul m.0 some))))
      (λ _. tt))
      (λ _. tt)

-- ---- the figure, of n zones to a turn, up to 59: handed out, 555 units or more in the air and 139 on the surface, of coarse counts 17,772 and 4,443

pub last_room : (size : Size) (k : Turn) → Room (count_size size) (last_short size k - 1) (all_round k 59)
unfolding all_round
last_room Fine Airborne = omega arith
last_room Fine Surface = omega arith
last_room Coarse Airborne = omega arith
last_room Coarse Surface = omega arith

module _ (P u : ℕ) (k : Turn) (room : Room P u (all_round k 59)) where
  longitude_short : (n zone c : ℕ) → 0 < n → n ≤ 59 → zone < all_round k n → c < P → rounded_turn (all_round k n * P) (zone * P + c) + suc u ≤ units
  longitude_short n zone c p m l s =
      (handed P u (all_round k n) _ (fewer P u (all_round k n) (all_round k 59) (round_most k n p m).1 room) (in_turn_lem P (all_round k n) zone c l s)).short

pub every_longitude : (size : Size) (k : Turn) (n zone c : ℕ) → 0 < n → n ≤ 59 → zone < all_round k n → c < count_size size
    → rounded_turn (all_round k n * count_size size) (zone * count_size size + c) + last_short size k ≤ units
every_longitude Fine Airborne n zone c p m l s = longitude_short 131072 554 Airborne (last_room Fine Airborne) n zone c p m l s
every_longitude Fine Surface n zone c p m l s = longitude_short 131072 138 Surface (last_room Fine Surface) n zone c p m l s
every_longitude Coarse Airborne n zone c p m l s = longitude_short 4096 17771 Airborne (last_room Coarse Airborne) n zone c p m l s
every_longitude Coarse Surface n zone c p m l s = longitude_short 4096 4442 Surface (last_room Coarse Surface) n zone c p m l s
