-- RULES 7.10, 7.16 and 19.3: what the answers say in the rules' terms: a number, or what is given instead; and when each number is due.
use Rattle.std.specs.Prelude.{Bool, cond, not, ◌||◌, ltb, eqb, nat_abs, ℕ, ◌*◌, Result, Ok, Err}
use Rattle.refusals.specs.Numbers.{number_of}
use Rattle.refusals.specs.Said.{Said, number, gives}
use Rattle.positions.specs.declared.Spot.{Spot}
use Rattle.positions.specs.declared.Turn.{Turn}
use Rattle.positions.specs.declared.Format.{Format}
use Rattle.positions.specs.declared.Format.TheVariants.{Even, Odd}
use Rattle.positions.specs.declared.Size.{Size}
use Rattle.positions.specs.declared.Size.TheVariants.{Fine, Coarse}
use Rattle.positions.specs.declared.Counts.{Counts}
use Rattle.positions.specs.Zones.{zone_count}
use Rattle.positions.specs.Positions.{count_size, latitude_zones, longitude_zones, all_round, counts_of, inside, pair_latitude, pair_nl, pair_spot, near, near_spot}
use Rattle.refusals.specs.declared.Refusal.{Refusal}

abbrev pub encoded_said : Result Counts Refusal → Said Counts
encoded_said (Ok c) = gives c
encoded_said (Err r) = number (number_of r)

abbrev pub found_said : Result Spot Refusal → Said Spot
found_said (Ok s) = gives s
found_said (Err r) = number (number_of r)

-- ---- the table's "When, exactly"

-- 8: a latitude outside -2^30..2^30
abbrev pub past_pole : Spot → Bool
past_pole s = ltb 1073741824 (nat_abs s.latitude)

-- 8: counts above 131,071, or above 4,095 of a coarse message
abbrev pub highest : Size → ℕ
highest Fine = 131071
highest Coarse = 4095

abbrev pub too_high : Size → Counts → Bool
too_high size c = ltb (highest size) c.latitude.0 || ltb (highest size) c.longitude.0

-- 9: decoded latitude outside -90..90 degrees, of either message of a pair
abbrev pub pair_outside : ℕ → Counts → Counts → Bool
pair_outside P even odd =
    let a = even.latitude.0 in
    let b = odd.latitude.0 in
    not (inside (60 * P) (pair_latitude P Even a b)) || not (inside (59 * P) (pair_latitude P Odd a b))

-- 10: the two latitudes lie in different longitude zones
abbrev pub pair_apart : ℕ → Counts → Counts → Bool
pair_apart P even odd =
    let a = even.latitude.0 in
    let b = odd.latitude.0 in
    not (eqb (pair_nl P Even a b) (pair_nl P Odd a b))

-- ---- what is due: for positions 8, 9, 10

abbrev pub encode_table : Size → Spot → Turn → Format → Said Counts
encode_table size s k f = cond (past_pole s) (number 8) (gives (counts_of (count_size size) s k f))

abbrev pub pair_table : Size → Counts → Counts → Format → Said Spot
pair_table size even odd later =
    let P = count_size size in
    let a = even.latitude.0 in
    let b = odd.latitude.0 in
    cond (too_high size even || too_high size odd) (number 8)
    (cond (pair_outside P even odd) (number 9)
    (cond (pair_apart P even odd) (number 10)
    (gives (pair_spot P later (pair_latitude P later a b) (pair_nl P Even a b) even.longitude.0 odd.longitude.0))))

abbrev pub single_table : Size → Spot → Counts → Turn → Format → Said Spot
single_table size reference c k f =
    let P = count_size size in
    let N = all_round k (latitude_zones f) in
    let r = near P N reference.latitude c.latitude.0 in
    cond (too_high size c || past_pole reference) (number 8)
    (cond (not (inside (N * P) r)) (number 9)
    (gives (near_spot P N r (all_round k (longitude_zones f (zone_count (N * P) r))) reference.longitude c.longitude.0)))
