-- Encoding one place both ways and pairing gives the rounded place of the later message exactly, or 10 just when the two rounded
-- latitudes differ in NL, and never 9: both latitudes come back exactly (Trip.antt), so their tests and NLs are those of the rounded ones.
-- Assumes nothing.
use Rattle.std.specs.Prelude.{Ok}
use mathlib.Core.Path.{◌≡◌, refl, sym, ap}
use mathlib.Core.Bool.{Bool, true, false, cond}
use Prim.Native.Nat.{ℕ, ◌*◌, ◌≤◌, ◌<◌}
use native.Mathlib.Omega.{arith}
use lib.Dec.{T, eqb, eqb→eq, lit<}
use lib.IntN.{pos}
use borrow.Author.Tests.{lt-ltb}
use Rattle.positions.specs.declared.Spot.{Spot}
use Rattle.positions.specs.declared.Turn.TheVariants.{Airborne}
use Rattle.positions.specs.declared.Format.{Format}
use Rattle.positions.specs.declared.Format.TheVariants.{Even, Odd}
use Rattle.positions.specs.declared.Counts.{Counts}
use Rattle.positions.specs.Whole.{modulo}
use Rattle.positions.specs.Zones.{zone_count}
use Rattle.positions.specs.Positions.{latitude_zones, longitude_zones, all_round, whole, count, spot_zones, counts_of, pole_to_pole, inside, pair_latitude, pair_longitude, pair_nl, pair_spot, pair_found, fit, paired}
use Rattle.positions.specs.Rounded.{rounded_nl, rounded_spot, round_trip}
use Rattle.positions.proofs.Shift.{modulo_lt}
use Rattle.positions.proofs.Latitudes.{zones_range}
use Rattle.positions.proofs.Trip.{latitude_again, longitude_again, whole_inside}

-- an airborne turn is all round
air : (Z : ℕ) → all_round Airborne Z ≡ Z
unfolding all_round
air Z = omega arith

if_true : {A : Type 0} (b : Bool) (x y z : A) → (T b → x ≡ y) → cond b x z ≡ cond b y z
if_true true x y z h = h tt
if_true false x y z h = refl

-- counts of a size that is a multiple of 4 above 118; a spot from pole to pole, any longitude; either message later
module _ (q : ℕ) (large : 118 < 4 * q) (s : Spot) (t : T (pole_to_pole s.latitude)) where
  abbrev even : Counts
  even = counts_of (4 * q) s Airborne Even

  abbrev odd : Counts
  odd = counts_of (4 * q) s Airborne Odd

  -- the exact latitudes of the pair are the rounded ones
  pub latitude_of : (f : Format) → pair_latitude (4 * q) f even.latitude.0 odd.latitude.0 ≡ whole (4 * q) (latitude_zones f) s.latitude
  unfolding counts_of
  latitude_of f = rw (air 60, air 59) (latitude_again q large s.latitude t f)

  count_of : (f : Format) → pair_nl (4 * q) f even.latitude.0 odd.latitude.0 ≡ rounded_nl (4 * q) f s.latitude
  unfolding pair_nl rounded_nl
  count_of f = ap (zone_count (latitude_zones f * (4 * q))) (latitude_of f)

  inside_of : (f : Format) → inside (latitude_zones f * (4 * q)) (pair_latitude (4 * q) f even.latitude.0 odd.latitude.0) ≡ true
  inside_of Even = rw (latitude_of Even) (whole_inside q large s.latitude t 60 (lit< tt))
  inside_of Odd = rw (latitude_of Odd) (whole_inside q large s.latitude t 59 (lit< tt))

  zones_of : (f : Format) → spot_zones (4 * q) Airborne f s.latitude ≡ longitude_zones f (rounded_nl (4 * q) f s.latitude)
  unfolding spot_zones rounded_nl
  zones_of f = rw (air (latitude_zones f), air (longitude_zones f (zone_count (latitude_zones f * (4 * q)) (whole (4 * q) (latitude_zones f) s.latitude))))

  range_of : (0 < rounded_nl (4 * q) Even s.latitude) × (rounded_nl (4 * q) Even s.latitude ≤ 59)
  unfolding rounded_nl
  range_of = zones_range (60 * (4 * q)) (whole (4 * q) 60 s.latitude)

  -- with one NL for both, the spot of either message
  module _ (NL : ℕ) (same : (f : Format) → rounded_nl (4 * q) f s.latitude ≡ NL) where
    ranged : (0 < NL) × (NL ≤ 59)
    ranged = rw (same Even) at range_of

    -- and so are the exact longitudes, modulo 360 degrees
    pub longitude_of : (f : Format) →
        pair_longitude (4 * q) f NL even.longitude.0 odd.longitude.0 ≡ modulo (whole (4 * q) (longitude_zones f NL) (pos s.longitude)) (longitude_zones f NL * (4 * q))
    unfolding counts_of
    longitude_of f =
        let r = ranged in
        rw (zones_of Even, zones_of Odd, same Even, same Odd) (longitude_again (4 * q) NL s.longitude (omega arith) (omega arith) r.0 f)

    spot_of : (f : Format) →
        pair_spot (4 * q) f (pair_latitude (4 * q) f even.latitude.0 odd.latitude.0) NL even.longitude.0 odd.longitude.0 ≡ rounded_spot (4 * q) f s
    unfolding pair_spot rounded_spot
    spot_of f = rw (latitude_of f, longitude_of f, same f)

  pub found_again : (later : Format) → pair_found (4 * q) even odd later ≡ round_trip (4 * q) s later
  unfolding pair_found round_trip
  found_again later =
      rw (inside_of Even, inside_of Odd, count_of Even, count_of Odd)
      (if_true (eqb n m) _ _ _ (λ (h : T (eqb n m)). ap Ok (spot_of n (both (eqb→eq n m h)) later)))
    where
      n : ℕ
      n = rounded_nl (4 * q) Even s.latitude

      m : ℕ
      m = rounded_nl (4 * q) Odd s.latitude

      both : n ≡ m → (f : Format) → rounded_nl (4 * q) f s.latitude ≡ n
      both e Even = refl
      both e Odd = sym e

  fit_of : (f : Format) → fit (4 * q) (counts_of (4 * q) s Airborne f) ≡ true
  unfolding counts_of count
  fit_of f =
      let P = 4 * q in
      let N = all_round Airborne (latitude_zones f) in
      let n = spot_zones P Airborne f s.latitude in
      rw (
        lt-ltb (modulo (whole P N s.latitude) P) P (modulo_lt (whole P N s.latitude) P (omega arith)),
        lt-ltb (modulo (whole P n (pos s.longitude)) P) P (modulo_lt (whole P n (pos s.longitude)) P (omega arith)),
      )

  -- nothing is refused with 8
  pub round_trip_lem : (later : Format) → paired (4 * q) even odd later ≡ round_trip (4 * q) s later
  round_trip_lem later = rw (fit_of Even, fit_of Odd) (found_again later)
