-- Each answer from what the code has computed: every part is put for the one that the definition names, and every test is decided.
-- Assumes nothing.
use Rattle.std.specs.Prelude.{Ok, Err}
use mathlib.Core.Path.{◌≡◌, refl, sym, ap, ◌∙◌}
use mathlib.Core.Bool.{true, false, ◌||◌}
use mathlib.Core.Logic.{⊎_elim}
use Prim.Native.Nat.{ℕ, ◌+◌, ◌*◌, ◌%◌, ◌≤◌, ◌<◌}
use native.Mathlib.Omega.{arith}
use lib.Dec.{ltb}
use lib.IntN.{ℤ, pos, sub_ℕ}
use borrow.Author.Tests.{ltb-true, ltb-false, eq-eqb, ne_eqb}
use Rattle.refusals.specs.declared.Refusal.TheVariants.{Latitude, Zones}
use Rattle.positions.specs.declared.Spot.{Spot}
use Rattle.positions.specs.declared.Counts.{Counts}
use Rattle.positions.specs.declared.Turn.{Turn}
use Rattle.positions.specs.declared.Format.{Format}
use Rattle.positions.specs.declared.Format.TheVariants.{Even, Odd}
use Rattle.positions.specs.Whole.{modulo}
use Rattle.positions.specs.Zones.{zone_count}
use Rattle.positions.specs.Code.{Within, Paired}
use Rattle.positions.specs.Positions.{units, own, latitude_zones, longitude_zones, all_round, whole, count, spot_zones, counts_of, rounded, rounded_turn, inside, pair_zone, in_zone, pair_latitude, pair_longitude, pair_nl, pair_spot, pair_found, fit, near_zone, near, near_spot, near_found}
use Rattle.fields.proofs.Bools.{each, either, neither, and-false}
use Rattle.positions.proofs.Shift.{sub_modulo}
use Rattle.positions.proofs.Naturals.{inside_yes, inside_north, inside_south, near_longitude}

abbrev pub spot : ℤ → ℕ → Spot
spot y x = record { latitude = y; longitude = x }

pub same : {p q : ℤ} {u v : ℕ} → p ≡ q → u ≡ v → spot p u ≡ spot q v
same e f = λ i. spot (e i) (f i)

-- the parts of a pair
-- a field of what the one of a format has is what the one of that format has of the field
pub own_by : {A : Type 0} (g : A → ℕ) (f : Format) (even odd : A) → g (own f even odd) ≡ own f (g even) (g odd)
own_by g Even even odd = refl
own_by g Odd even odd = refl

pub own_small : (f : Format) {P even odd : ℕ} → even < P → odd < P → own f even odd < P
own_small Even p q = p
own_small Odd p q = q

pub pair_latitude_lem : (f : Format) (even odd z zone c r : ℕ) →
    z ≡ latitude_zones f → zone ≡ modulo (pair_zone 131072 60 even odd) z → c ≡ own f even odd → Within (z * 131072) (zone * 131072 + c) r → Paired f even odd r
unfolding pair_latitude in_zone
pair_latitude_lem f even odd z zone c r ez ezone ec w =
    record { is = rw (← ez, ← ec, ← ezone) w.is; south = rw (← ez) w.south; below = rw (← ez) w.below }

module _ (f : Format) (up NL even odd z n zone c : ℕ) {y : ℤ} {x : ℕ} where
  pub pair_spot_lem :
      z ≡ latitude_zones f → n ≡ longitude_zones f NL → zone ≡ modulo (pair_zone 131072 NL even odd) n → c ≡ own f even odd →
      y ≡ rounded (z * 131072) (sub_ℕ up (z * 131072)) → x ≡ rounded_turn (n * 131072) (zone * 131072 + c) →
      spot y x ≡ pair_spot 131072 f (sub_ℕ up (latitude_zones f * 131072)) NL even odd
  unfolding pair_spot pair_longitude in_zone
  pair_spot_lem ez en ezone ec ey ex = same ey ex ∙ rw (ezone, ec, ez, en)

module _ (up z n longitude zone c : ℕ) (some : 0 < n) (small : c < 131072) {y : ℤ} {x : ℕ} where
  pub near_spot_lem :
      zone ≡ modulo (near_zone 131072 n (pos longitude) c) n →
      y ≡ rounded (z * 131072) (sub_ℕ up (z * 131072)) → x ≡ rounded_turn (n * 131072) (zone * 131072 + c) →
      spot y x ≡ near_spot 131072 z (sub_ℕ up (z * 131072)) n longitude c
  unfolding near_spot
  near_spot_lem ezone ey ex = same ey (ex ∙ rw (ezone, near_longitude 131072 n longitude c (omega arith) some small))

-- the counts of a spot
module _ (P : ℕ) (p : 0 < P) (k : Turn) (f : Format) (up longitude lz z y NL lo n x : ℕ) where
  pub counts :
      lz ≡ latitude_zones f → z ≡ all_round k lz → whole P z (sub_ℕ up units) ≡ sub_ℕ y (z * P) →
      NL ≡ zone_count (z * P) (sub_ℕ y (z * P)) → lo ≡ longitude_zones f NL → n ≡ all_round k lo → whole P n (pos longitude) ≡ pos x →
      ◌≡◌ {A = Counts} (record { latitude = record { 0 = y % P }; longitude = record { 0 = x % P } }) (counts_of P (spot (sub_ℕ up units) longitude) k f)
  unfolding counts_of count spot_zones modulo
  counts elz ez ey eNL elo en ex = rw (← elz, ← ez, ey, ← eNL, ← elo, ← en, ex, sub_modulo y z P p)

pub fit_counts : (P : ℕ) (c : Counts) → fit P c ≡ true → (c.latitude.0 < P) × (c.longitude.0 < P)
fit_counts P c e =
    let t = each (ltb c.latitude.0 P) (ltb c.longitude.0 P) e in
    (ltb-true c.latitude.0 P t.0, ltb-true c.longitude.0 P t.1)

-- what a pair finds, with r and s the two latitudes one turn up
module _ (even odd : Counts) (r s : ℕ) (er : Paired Even even.latitude.0 odd.latitude.0 r) (es : Paired Odd even.latitude.0 odd.latitude.0 s) where
  pub pair_far : (later : Format) → (ltb 39321600 (4 * r) || ltb 38666240 (4 * s)) ≡ true → Err Latitude ≡ pair_found 131072 even odd later
  unfolding pair_found
  pair_far later t =
      ⊎_elim
      (λ (h : ltb 39321600 (4 * r) ≡ true). rw (er.is, inside_north r 7864320 (ltb-true 39321600 (4 * r) h)))
      (λ (h : ltb 38666240 (4 * s) ≡ true). rw (es.is, inside_north s 7733248 (ltb-true 38666240 (4 * s) h), and-false))
      (either (ltb 39321600 (4 * r)) (ltb 38666240 (4 * s)) t)

  module _ (t : (ltb 39321600 (4 * r) || ltb 38666240 (4 * s)) ≡ false) where
    pub even_north : 4 * r ≤ 39321600
    even_north = ltb-false 39321600 (4 * r) (neither (ltb 39321600 (4 * r)) (ltb 38666240 (4 * s)) t).0

    pub odd_north : 4 * s ≤ 38666240
    odd_north = ltb-false 38666240 (4 * s) (neither (ltb 39321600 (4 * r)) (ltb 38666240 (4 * s)) t).1

    even_inside : inside 7864320 (pair_latitude 131072 Even even.latitude.0 odd.latitude.0) ≡ true
    even_inside = rw er.is (inside_yes r 7864320 er.south even_north)

    odd_inside : inside 7733248 (pair_latitude 131072 Odd even.latitude.0 odd.latitude.0) ≡ true
    odd_inside = rw es.is (inside_yes s 7733248 es.south odd_north)

    module _ (NL m : ℕ) (eNL : NL ≡ zone_count 7864320 (sub_ℕ r 7864320)) (em : m ≡ zone_count 7733248 (sub_ℕ s 7733248)) where
      even_count : pair_nl 131072 Even even.latitude.0 odd.latitude.0 ≡ NL
      unfolding pair_nl
      even_count = rw er.is (sym eNL)

      odd_count : pair_nl 131072 Odd even.latitude.0 odd.latitude.0 ≡ m
      unfolding pair_nl
      odd_count = rw es.is (sym em)

      pub pair_apart_lem : (later : Format) → (NL ≡ m → ⊥) → Err Zones ≡ pair_found 131072 even odd later
      unfolding pair_found
      pair_apart_lem later h = rw (even_inside, odd_inside, even_count, odd_count, ne_eqb NL m h)

      pub pair_found_lem : (later : Format) → NL ≡ m → (p : Spot) →
          p ≡ pair_spot 131072 later (sub_ℕ (own later r s) (latitude_zones later * 131072)) NL even.longitude.0 odd.longitude.0 →
          Ok p ≡ pair_found 131072 even odd later
      unfolding pair_found
      pair_found_lem Even e p ep = ap Ok ep ∙ rw (even_inside, odd_inside, even_count, odd_count, eq-eqb NL m e, er.is)
      pair_found_lem Odd e p ep = ap Ok ep ∙ rw (even_inside, odd_inside, even_count, odd_count, eq-eqb NL m e, es.is)

-- what is found near a reference, with y the latitude one turn up
module _ (N y : ℕ) (s : Spot) (c : Counts) (k : Turn) (f : Format) (e : near 131072 N s.latitude c.latitude.0 ≡ sub_ℕ y (N * 131072)) where
  pub near_far : (ltb (4 * y) (3 * (N * 131072)) || ltb (5 * (N * 131072)) (4 * y)) ≡ true → Err Latitude ≡ near_found 131072 N s c k f
  unfolding near_found
  near_far t =
      ⊎_elim
      (λ (h : ltb (4 * y) (3 * (N * 131072)) ≡ true). rw (e, inside_south y (N * 131072) (ltb-true (4 * y) (3 * (N * 131072)) h)))
      (λ (h : ltb (5 * (N * 131072)) (4 * y) ≡ true). rw (e, inside_north y (N * 131072) (ltb-true (5 * (N * 131072)) (4 * y) h)))
      (either (ltb (4 * y) (3 * (N * 131072))) (ltb (5 * (N * 131072)) (4 * y)) t)

  module _ (t : (ltb (4 * y) (3 * (N * 131072)) || ltb (5 * (N * 131072)) (4 * y)) ≡ false) where
    pub near_south : 3 * (N * 131072) ≤ 4 * y
    near_south = ltb-false (4 * y) (3 * (N * 131072)) (neither (ltb (4 * y) (3 * (N * 131072))) (ltb (5 * (N * 131072)) (4 * y)) t).0

    pub near_north : 4 * y ≤ 5 * (N * 131072)
    near_north = ltb-false (5 * (N * 131072)) (4 * y) (neither (ltb (4 * y) (3 * (N * 131072))) (ltb (5 * (N * 131072)) (4 * y)) t).1

    pub near_found_lem : (NL lo n : ℕ) → NL ≡ zone_count (N * 131072) (sub_ℕ y (N * 131072)) → lo ≡ longitude_zones f NL → n ≡ all_round k lo → (p : Spot) →
        p ≡ near_spot 131072 N (sub_ℕ y (N * 131072)) n s.longitude c.longitude.0 → Ok p ≡ near_found 131072 N s c k f
    unfolding near_found
    near_found_lem NL lo n eNL elo en p ep =
        ap Ok ep ∙ rw (e, inside_yes y (N * 131072) near_south near_north, ← eNL, ← elo, ← en)
