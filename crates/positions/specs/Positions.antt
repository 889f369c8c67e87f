-- RULES 7: positions. P is the count size, 2^17 or 2^12, and N how many zones make 360 degrees.
-- A spot is in 2^-32 of 360 degrees. An exact position is a fraction of 360 degrees, a whole number over N * P.
-- So a spot's x times Z / turn x P is x * (N * P) / 2^32, and a whole number times turn / Z / P is that number over N * P.
use Rattle.std.specs.Prelude.{Bool, cond, ◌&&◌, ℕ, ◌+◌, ◌-◌, ◌*◌, ◌/◌, max, ℤ, pos, nat_abs, ◌+ℤ◌, ◌-ℤ◌, ◌*ℤ◌, leb, ltb, eqb, Result, Ok, Err}
use Rattle.refusals.specs.declared.Refusal.TheVariants.{Field, Latitude, Zones}
use Rattle.positions.specs.declared.Spot.{Spot}
use Rattle.positions.specs.declared.Turn.{Turn}
use Rattle.positions.specs.declared.Turn.TheVariants.{Airborne, Surface}
use Rattle.positions.specs.declared.Format.{Format}
use Rattle.positions.specs.declared.Format.TheVariants.{Even, Odd}
use Rattle.positions.specs.declared.Size.{Size}
use Rattle.positions.specs.declared.Size.TheVariants.{Fine, Coarse}
use Rattle.positions.specs.declared.Counts.{Counts}
use Rattle.positions.specs.Whole.{modulo, nearest}
use Rattle.positions.specs.Zones.{zone_count}
use Rattle.refusals.specs.declared.Refusal.{Refusal}

-- RULES 7.6: a spot's units in 360 degrees
abbrev pub units : ℕ
units = 4294967296

-- RULES 7.2 and 7.19: P, which is 2^17, and 2^12 of a coarse message, whose counts have 12 bits
abbrev pub count_size : Size → ℕ
count_size Fine = 131072
count_size Coarse = 4096

-- RULES 7.2: F, called i: 0 for even, 1 for odd
abbrev pub bit : Format → ℕ
bit Even = 0
bit Odd = 1

-- of what the two messages have, what the one of this format has
abbrev pub own : {A : Type 0} → Format → A → A → A
own Even even odd = even
own Odd even odd = odd

-- RULES 7.2: Z, the zones of latitude
abbrev pub latitude_zones : Format → ℕ
latitude_zones f = 60 - bit f

-- RULES 7.2: n, the zones of longitude: the larger of NL - i and 1
abbrev pub longitude_zones : Format → ℕ → ℕ
longitude_zones f NL = max (NL - bit f) 1

-- RULES 7.2: an airborne turn is 360 degrees, a surface turn 90
abbrev pub degrees : Turn → ℕ
degrees Airborne = 360
degrees Surface = 90

-- RULES 7.2: N: so many zones make 360 degrees where Z make a turn
unfoldable pub all_round : Turn → ℕ → ℕ
all_round k Z = Z * 360 / degrees k

-- RULES 7.7: Encode: latitude x Z / turn x P, or longitude with n for Z, rounded to nearest, half up
unfoldable pub whole : ℕ → ℕ → ℤ → ℤ
whole P N x = nearest (x *ℤ pos (N * P)) units

-- RULES 7.7: and the count is that modulo P
unfoldable pub count : ℕ → ℕ → ℤ → ℕ
count P N x = modulo (whole P N x) P

-- RULES 7.8: the zones of longitude of a spot's message, by the NL of its rounded latitude
unfoldable pub spot_zones : ℕ → Turn → Format → ℤ → ℕ
spot_zones P k f latitude =
    let N = all_round k (latitude_zones f) in
    all_round k (longitude_zones f (zone_count (N * P) (whole P N latitude)))

-- RULES 7.8: both counts of a spot
unfoldable pub counts_of : ℕ → Spot → Turn → Format → Counts
counts_of P s k f =
    record {
      latitude = record { 0 = count P (all_round k (latitude_zones f)) s.latitude };
      longitude = record { 0 = count P (spot_zones P k f s.latitude) (pos s.longitude) };
    }

-- RULES 7.6: whether a latitude to encode, or of a reference, is in -2^30..2^30
abbrev pub pole_to_pole : ℤ → Bool
pole_to_pole latitude = leb (nat_abs latitude) 1073741824

-- RULES 7.8 and 7.19: the counts of a spot, or 8
abbrev pub encoded : ℕ → Spot → Turn → Format → Result Counts Refusal
encoded P s k f = cond (pole_to_pole s.latitude) (Ok (counts_of P s k f)) (Err Field)

-- RULES 7.14: Places handed out: the exact r / M of 360 degrees rounds to nearest, half up
unfoldable pub rounded : ℕ → ℤ → ℤ
rounded M r = nearest (r *ℤ pos units) M

-- RULES 7.14: a longitude from 0: r and so its rounded figure are never below zero
unfoldable pub rounded_turn : ℕ → ℕ → ℕ
rounded_turn M r = nat_abs (rounded M (pos r))

-- RULES 7.10: whether the latitude r / M of 360 degrees is in -90..90 degrees
unfoldable pub inside : ℕ → ℤ → Bool
inside M r = leb (4 * nat_abs r) M

-- RULES 7.9 and 7.11: Pair: j and m are (even x (n - 1) - odd x n) / P + 1/2, rounded down, with n 60 for latitudes and NL for longitudes
unfoldable pub pair_zone : ℕ → ℕ → ℕ → ℕ → ℤ
pair_zone P n even odd = nearest (pos (even * (n - 1)) -ℤ pos (odd * n)) P

-- RULES 7.9: 360 / N x (zone modulo N + count / P)
unfoldable pub in_zone : ℕ → ℕ → ℤ → ℕ → ℕ
in_zone P N zone c = modulo zone N * P + c

-- RULES 7.9: less 360 from 270 up
unfoldable pub less360 : ℕ → ℕ → ℤ
less360 M r = cond (leb (3 * M) (4 * r)) (pos r -ℤ pos M) (pos r)

-- RULES 7.9: the latitude of the message of format f, over Z * P
unfoldable pub pair_latitude : ℕ → Format → ℕ → ℕ → ℤ
pair_latitude P f even odd =
    less360 (latitude_zones f * P) (in_zone P (latitude_zones f) (pair_zone P 60 even odd) (own f even odd))

-- RULES 7.11: its longitude, over n * P
unfoldable pub pair_longitude : ℕ → Format → ℕ → ℕ → ℕ → ℕ
pair_longitude P f NL even odd =
    in_zone P (longitude_zones f NL) (pair_zone P NL even odd) (own f even odd)

-- RULES 7.10: its NL
unfoldable pub pair_nl : ℕ → Format → ℕ → ℕ → ℕ
pair_nl P f even odd = zone_count (latitude_zones f * P) (pair_latitude P f even odd)

-- RULES 7.11: the spot of the message of format f, with NL that of both latitudes
unfoldable pub pair_spot : ℕ → Format → ℤ → ℕ → ℕ → ℕ → Spot
pair_spot P f r NL even odd =
    record {
      latitude = rounded (latitude_zones f * P) r;
      longitude = rounded_turn (longitude_zones f NL * P) (pair_longitude P f NL even odd);
    }

-- RULES 7.10: both latitudes are tested for 9, then 10; the later message gives the spot
unfoldable pub pair_found : ℕ → Counts → Counts → Format → Result Spot Refusal
pair_found P even odd later =
    let a = even.latitude.0 in
    let b = odd.latitude.0 in
    cond (inside (60 * P) (pair_latitude P Even a b) && inside (59 * P) (pair_latitude P Odd a b))
    (cond (eqb (pair_nl P Even a b) (pair_nl P Odd a b))
    (Ok (pair_spot P later (pair_latitude P later a b) (pair_nl P Even a b) even.longitude.0 odd.longitude.0))
    (Err Zones))
    (Err Latitude)

-- RULES 7.1: whether both counts are below P
abbrev pub fit : ℕ → Counts → Bool
fit P c = ltb c.latitude.0 P && ltb c.longitude.0 P

-- RULES 7.19: the spot of the later message, or 8, 9, 10 in that order
abbrev pub paired : ℕ → Counts → Counts → Format → Result Spot Refusal
paired P even odd later = cond (fit P even && fit P odd) (pair_found P even odd later) (Err Field)

-- RULES 7.12: Single: the zone is 1/2 + reference x Z / turn - count / P, rounded down
unfoldable pub near_zone : ℕ → ℕ → ℤ → ℕ → ℤ
near_zone P N reference c = nearest (reference *ℤ pos (N * P) -ℤ pos (c * units)) (units * P)

-- RULES 7.12: the position with the count that lies nearest to the reference
unfoldable pub near : ℕ → ℕ → ℤ → ℕ → ℤ
near P N reference c = near_zone P N reference c *ℤ pos P +ℤ pos c

-- RULES 7.13: the spot with the latitude r over N * P, and the longitude likewise with n, modulo 360
unfoldable pub near_spot : ℕ → ℕ → ℤ → ℕ → ℕ → ℕ → Spot
near_spot P N r n longitude c =
    record {
      latitude = rounded (N * P) r;
      longitude = rounded_turn (n * P) (modulo (near P n (pos longitude) c) (n * P));
    }

-- RULES 7.12: with N zones of latitude; NL is the decoded latitude's
unfoldable pub near_found : ℕ → ℕ → Spot → Counts → Turn → Format → Result Spot Refusal
near_found P N s c k f =
    let r = near P N s.latitude c.latitude.0 in
    cond (inside (N * P) r)
    (Ok (near_spot P N r (all_round k (longitude_zones f (zone_count (N * P) r))) s.longitude c.longitude.0))
    (Err Latitude)

-- RULES 7.12 and 7.19: the spot near a reference, or 8, 9 in that order
abbrev pub singly : ℕ → Spot → Counts → Turn → Format → Result Spot Refusal
singly P reference c k f =
    cond (fit P c && pole_to_pole reference.latitude) (near_found P (all_round k (latitude_zones f)) reference c k f) (Err Field)
