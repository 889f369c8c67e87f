-- Positions of the code: what meets the contracts of `encode` and `pair`, or of `encode` and `single`, one after the other, gives the rounded place back, and that is
-- within half a count of the true one; and no spot that `pair` or `single` gives has lost anything of its longitude. By the same of the definitions, which
-- hold at either size of counts; that `encode` gave counts says that the latitude is from pole to pole.
-- Assumes nothing.
use Rattle.std.specs.Prelude.{Result, Ok, Err}
use mathlib.Core.Path.{◌≡◌, refl, sym, ap, ◌∙◌, subst}
use mathlib.Core.Bool.{Bool, true, false, cond, ◌&&◌}
use Prim.Native.Nat.{ℕ, ◌*◌, ◌<◌}
use native.Mathlib.Nat.{mul-pos}
use native.Mathlib.Omega.{arith}
use lib.Dec.{T, eqb, lit<}
use lib.IntN.{ℤ, pos}
use Rattle.refusals.specs.declared.Refusal.{Refusal}
use Rattle.refusals.specs.declared.Refusal.TheVariants.{Field, Latitude, Zones}
use Rattle.positions.specs.declared.Spot.{Spot}
use Rattle.positions.specs.declared.Turn.{Turn}
use Rattle.positions.specs.declared.Turn.TheVariants.{Airborne, Surface}
use Rattle.positions.specs.declared.Format.{Format}
use Rattle.positions.specs.declared.Format.TheVariants.{Even, Odd}
use Rattle.positions.specs.declared.Size.{Size}
use Rattle.positions.specs.declared.Size.TheVariants.{Fine, Coarse}
use Rattle.positions.specs.declared.Counts.{Counts}
use Rattle.positions.specs.Whole.{modulo}
use Rattle.positions.specs.Zones.{zone_count}
use Rattle.positions.specs.Positions.{units, count_size, latitude_zones, longitude_zones, all_round, whole, spot_zones, counts_of, pole_to_pole, rounded_turn, inside, fit, paired, near, near_spot, near_found}
use Rattle.positions.specs.Rounded.{rounded_nl, rounded_spot, round_trip, Nearby, Handed, HandedBy, pair_zones, pair_exact, single_zones, single_exact, last_short, HalfACount}
use Rattle.fields.proofs.Bools.{each}
use Rattle.positions.proofs.Answers.{fit_counts}
use Rattle.positions.proofs.RoundTrip.{round_trip_lem}
use Rattle.positions.proofs.Half.{half_a_count, half_around}
use Rattle.positions.proofs.Nearby.{near_alone}
use Rattle.positions.proofs.Scaled.{some_zones, some_round}
use Rattle.positions.proofs.Short.{paired_handed, singly_handed, last_room}
use Rattle.positions.proofs.encode.Reads as encode
use Rattle.positions.proofs.pair.Reads as pair
use Rattle.positions.proofs.single.Reads as single

-- ---- calls that met their contracts

abbrev pub EncodeMet : Size → Spot → Turn → Format → Result Counts Refusal → Type 0
EncodeMet z s k f x = encode.Post tt (z, (s, (k, (f, tt)))) x (z, (s, (k, (f, tt))))

abbrev pub PairMet : Size → Counts → Counts → Format → Result Spot Refusal → Type 0
PairMet z even odd later x = pair.Post tt (z, (even, (odd, (later, tt)))) x (z, (even, (odd, (later, tt))))

abbrev pub SingleMet : Size → Spot → Counts → Turn → Format → Result Spot Refusal → Type 0
SingleMet z reference c k f x = single.Post tt (z, (reference, (c, (k, (f, tt))))) x (z, (reference, (c, (k, (f, tt)))))

-- ---- what an answer that gives something says of the tests

as_given : (t : Bool) (c d : Counts) → Ok c ≡ cond t (Ok d) (Err Field) → T t × (c ≡ d)
as_given true c d e = let g : Ok c ≡ Ok d = e in (tt, cc)
as_given false c d e =
    let g : Ok c ≡ Err Field = e in
    let z : ◌≡◌ {A = ℕ} 0 1 = cc in
    let no : ⊥ = omega arith in
    absurd no

at_same : (r p : Spot) → ◌≡◌ {A = Result Spot Refusal} (Ok r) (Ok p) → r ≡ p
at_same r p e = cc

at_none : (r : Spot) (n : Refusal) → Ok r ≡ Err n → ⊥
at_none r n e = let z : ◌≡◌ {A = ℕ} 0 1 = cc in omega arith

at_trip : (t : Bool) (r p : Spot) → Ok r ≡ cond t (Ok p) (Err Zones) → r ≡ p
at_trip true r p e = at_same r p e
at_trip false r p e = absurd (at_none r Zones e)

at_near : (t u : Bool) (r p : Spot) → Ok r ≡ cond t (cond u (Ok p) (Err Latitude)) (Err Field) → (t ≡ true) × (r ≡ p)
at_near true true r p e = (refl, at_same r p e)
at_near true false r p e = absurd (at_none r Latitude e)
at_near false u r p e = absurd (at_none r Field e)

-- ---- no longitude is a turn

-- whatever spot a pair gives: its longitude is the pair's exact one rounded to nearest, all of it, and 555 units short of a turn or more, 17,772 of coarse counts
pub code_pair_handed : (size : Size) (even odd : Counts) (later : Format) (r : Spot) → PairMet size even odd later (Ok r)
    → Handed (count_size size) (pair_zones (count_size size) even odd later) (pair_exact (count_size size) even odd later) (last_short size Airborne) r.longitude
code_pair_handed Fine even odd later r pr =
    subst (HandedBy 131072 (pair_zones 131072 even odd later) (pair_exact 131072 even odd later) 555) (sym pr) (paired_handed 131072 554 (omega arith) even odd later)
code_pair_handed Coarse even odd later r pr =
    subst (HandedBy 4096 (pair_zones 4096 even odd later) (pair_exact 4096 even odd later) 17772) (sym pr) (paired_handed 4096 17771 (omega arith) even odd later)

-- and so of a single message, with 139 on the surface, and 4,443
pub code_single_handed : (size : Size) (reference : Spot) (c : Counts) (k : Turn) (f : Format) (r : Spot) → SingleMet size reference c k f (Ok r)
    → Handed (count_size size) (single_zones (count_size size) reference c k f) (single_exact (count_size size) reference c k f) (last_short size k) r.longitude
code_single_handed Fine reference c Airborne f r pr =
    subst (HandedBy 131072 (single_zones 131072 reference c Airborne f) (single_exact 131072 reference c Airborne f) 555) (sym pr) (singly_handed 131072 554 Airborne (last_room Fine Airborne) (lit< tt) reference c f)
code_single_handed Fine reference c Surface f r pr =
    subst (HandedBy 131072 (single_zones 131072 reference c Surface f) (single_exact 131072 reference c Surface f) 139) (sym pr) (singly_handed 131072 138 Surface (last_room Fine Surface) (lit< tt) reference c f)
code_single_handed Coarse reference c Airborne f r pr =
    subst (HandedBy 4096 (single_zones 4096 reference c Airborne f) (single_exact 4096 reference c Airborne f) 17772) (sym pr) (singly_handed 4096 17771 Airborne (last_room Coarse Airborne) (lit< tt) reference c f)
code_single_handed Coarse reference c Surface f r pr =
    subst (HandedBy 4096 (single_zones 4096 reference c Surface f) (single_exact 4096 reference c Surface f) 4443) (sym pr) (singly_handed 4096 4442 Surface (last_room Coarse Surface) (lit< tt) reference c f)

-- ---- either size

some_counts : (size : Size) → 0 < count_size size
some_counts Fine = lit< tt
some_counts Coarse = lit< tt

-- a zone's counts are a multiple of 4, and many enough
sized_trip : (size : Size) (s : Spot) → T (pole_to_pole s.latitude) → (later : Format)
    → paired (count_size size) (counts_of (count_size size) s Airborne Even) (counts_of (count_size size) s Airborne Odd) later ≡ round_trip (count_size size) s later
sized_trip Fine s t later = round_trip_lem 32768 (lit< tt) s t later
sized_trip Coarse s t later = round_trip_lem 1024 (lit< tt) s t later

module _ (size : Size) (s : Spot) where
  abbrev P : ℕ
  P = count_size size

  counts : 0 < P
  counts = some_counts size

  -- ---- a pair

  -- one place encoded both ways and paired gives the rounded place of the later message, or 10 just where the rounded latitudes differ in NL
  pub encode_both_and_pair : (e o : Counts) (later : Format) (r : Result Spot Refusal) → EncodeMet size s Airborne Even (Ok e) → EncodeMet size s Airborne Odd (Ok o) → PairMet size e o later r → r ≡ round_trip P s later
  encode_both_and_pair e o later r pe po pr =
      let ge = as_given (pole_to_pole s.latitude) e (counts_of P s Airborne Even) pe in
      let go = as_given (pole_to_pole s.latitude) o (counts_of P s Airborne Odd) po in
      pr
      ∙ ap (λ (c : Counts). paired P c o later) ge.1
      ∙ ap (λ (c : Counts). paired P (counts_of P s Airborne Even) c later) go.1
      ∙ sized_trip size s ge.0 later

  module _ (east : s.longitude < units) where
    rounded_half : (f : Format) → HalfACount P (latitude_zones f) (longitude_zones f (rounded_nl P f s.latitude)) s (rounded_spot P f s)
    unfolding rounded_spot
    rounded_half f =
        let N = latitude_zones f in
        let n = longitude_zones f (rounded_nl P f s.latitude) in
        record {
          exact_latitude = whole P N s.latitude;
          exact_longitude = modulo (whole P n (pos s.longitude)) (n * P);
          out_latitude = refl;
          out_longitude = refl;
          half_latitude = half_a_count P N (mul-pos (some_zones f) counts) s.latitude;
          half_longitude = half_around P n (mul-pos {m = n} (omega arith) counts) s.longitude east;
        }

    -- and so the place is within half a count of the one that was encoded
    pub code_half_a_count : (e o : Counts) (later : Format) (r : Spot) → EncodeMet size s Airborne Even (Ok e) → EncodeMet size s Airborne Odd (Ok o) → PairMet size e o later (Ok r)
        → HalfACount P (latitude_zones later) (longitude_zones later (rounded_nl P later s.latitude)) s r
    unfolding round_trip
    code_half_a_count e o later r pe po pr =
        let same = at_trip (eqb (rounded_nl P Even s.latitude) (rounded_nl P Odd s.latitude)) r (rounded_spot P later s) (encode_both_and_pair e o later (Ok r) pe po pr) in
        subst (λ (p : Spot). HalfACount P (latitude_zones later) (longitude_zones later (rounded_nl P later s.latitude)) s p) (sym same) (rounded_half later)

    -- ---- one message, against a reference

    -- where the rounded place lies within half a zone of the reference, its longitude turned by whole turns if need be, the place read singly is within half a count of the one that was encoded
    module _ (k : Turn) (f : Format) (reference : Spot) (c : Counts) (r : Spot) where
      abbrev N : ℕ
      N = all_round k (latitude_zones f)

      abbrev n : ℕ
      n = spot_zones P k f s.latitude

      some_latitude : 0 < N
      some_latitude = some_round k (latitude_zones f) (some_zones f)

      some_longitude : 0 < n
      unfolding spot_zones
      some_longitude = some_round k (longitude_zones f (zone_count (N * P) (whole P N s.latitude))) (omega arith)

      pub code_half_a_count_singly : EncodeMet size s k f (Ok c) → SingleMet size reference c k f (Ok r)
          → Nearby P N reference.latitude c.latitude.0 (whole P N s.latitude)
          → (z : ℤ) → modulo z (n * P) ≡ modulo (whole P n (pos s.longitude)) (n * P) → Nearby P n (pos reference.longitude) c.longitude.0 z
          → HalfACount P N n s r
      unfolding near_found near_spot spot_zones
      code_half_a_count_singly pe pr by-latitude z turned by-longitude =
          let y = near P N reference.latitude c.latitude.0 in
          let found = at_near (fit P c && pole_to_pole reference.latitude) (inside (N * P) y) r _ pr in
          let small = fit_counts P c (each (fit P c) (pole_to_pole reference.latitude) found.0).0 in
          let same : whole P N s.latitude ≡ y = near_alone P N reference.latitude c.latitude.0 counts some_latitude small.0 (whole P N s.latitude) by-latitude in
          let round : z ≡ near P n (pos reference.longitude) c.longitude.0 = near_alone P n (pos reference.longitude) c.longitude.0 counts some_longitude small.1 z by-longitude in
          let spot : r ≡ near_spot P N (whole P N s.latitude) n reference.longitude c.longitude.0 =
          subst (λ (x : ℤ). r ≡ near_spot P N x (all_round k (longitude_zones f (zone_count (N * P) x))) reference.longitude c.longitude.0) (sym same) found.1 in
          record {
            exact_latitude = whole P N s.latitude;
            exact_longitude = modulo (whole P n (pos s.longitude)) (n * P);
            out_latitude = ap (λ (p : Spot). p.latitude) spot;
            out_longitude = ap (λ (p : Spot). p.longitude) spot ∙ ap (rounded_turn (n * P)) (ap (λ (x : ℤ). modulo x (n * P)) (sym round) ∙ turned);
            half_latitude = half_a_count P N (mul-pos some_latitude counts) s.latitude;
            half_longitude = half_around P n (mul-pos some_longitude counts) s.longitude east;
          }
