-- One place encoded by both formats, and the two counts paired: the exact position of either message comes back.
-- Pairing.antt finds the zone modulo the zones; here the zone and the count are put together again, on each axis.
-- Over the zones and any count size P that is large enough, so that 2^17 and 2^12 are instances.
-- Assumes nothing.
use mathlib.Core.Path.{◌≡◌, sym, ap, ◌∙◌}
use mathlib.Core.Bool.{true}
use mathlib.Core.Logic.{⊎_elim}
use Prim.Native.Nat.{ℕ, zero, suc, ◌+◌, ◌-◌, ◌*◌, ◌%◌, ◌≤◌, ◌<◌, max}
use native.Mathlib.Nat.{mod-eq_of_lt, mod-lt, le_of_lt, mul-pos, zero-lt-suc, add-mod_right}
use native.Mathlib.Omega.{arith}
use lib.Dec.{T, leb→le, lit<}
use lib.IntN.{ℤ, pos, negsuc, sub_ℕ}
use Rattle.positions.specs.declared.Format.{Format}
use Rattle.positions.specs.declared.Format.TheVariants.{Even, Odd}
use Rattle.positions.specs.Whole.{modulo}
use Rattle.signs.specs.Raised.{raised}
use Rattle.positions.specs.Code.{nearestℕ}
use Rattle.positions.specs.Positions.{units, own, latitude_zones, longitude_zones, whole, count, pole_to_pole, inside, pair_zone, in_zone, less360, pair_latitude, pair_longitude}
use Rattle.positions.proofs.Shift.{order, sub_modulo}
use Rattle.positions.proofs.Naturals.{whole_is, whole_pos, whole_low, whole_high, pair_zone_is, less_high, less_low, inside_yes}
use Rattle.positions.proofs.Pairing.{zone_of, pair_even, pair_odd}
use Rattle.positions.proofs.Signed.{lowered}

-- the zone number over naturals
zone_is : (P k z a b : ℕ) → 0 < P → 0 < z → b ≤ P → modulo (pair_zone P (suc k) a b) z ≡ zone_of P k z a b
unfolding zone_of
zone_is P k z a b p q h =
    let e : suc k - 1 ≡ k = omega arith in
    pair_zone_is P (suc k) z a b p q h
    ∙ ap (λ (y : ℕ). nearestℕ (a * y + suc k * z * P - b * suc k) P % z) e
    ∙ ap (λ (y : ℕ). nearestℕ y P % z) {x = a * k + suc k * z * P - b * suc k} {y = k * a + suc k * z * P - suc k * b} (omega arith)

-- with one zone there is nothing to tell
modulo_one : (z : ℤ) → modulo z 1 ≡ 0
unfolding modulo
modulo_one (pos a) = omega arith
modulo_one (negsuc a) = omega arith

one_zone : (P r : ℕ) (zone : ℤ) → in_zone P 1 zone (r % P) ≡ r % (1 * P)
unfolding in_zone
one_zone P r zone =
    ap (λ (y : ℕ). y * P + r % P) (modulo_one zone) ∙ omega arith ∙ ap (λ (y : ℕ). r % y) {x = P} {y = 1 * P} (omega arith)

-- the number that w rounds to by n zones
abbrev wholeℕ : ℕ → ℕ → ℕ → ℕ
wholeℕ P w n = nearestℕ (w * (n * P)) units

-- suc k even zones, and k odd ones or 1
module _ (P w : ℕ) (p : 0 < P) where
  swap : (n : ℕ) → wholeℕ P w n ≡ nearestℕ (n * (w * P)) units
  swap n = ap (λ (y : ℕ). nearestℕ y units) {x = w * (n * P)} {y = n * (w * P)} (omega arith)

  more : (k : ℕ) → max (suc k) 1 ≡ suc k
  more k = omega arith

  pub even_again : (k : ℕ) → 2 * k < P → in_zone P (suc k) (pair_zone P (suc k) (wholeℕ P w (suc k) % P) (wholeℕ P w (max k 1) % P)) (wholeℕ P w (suc k) % P) ≡ wholeℕ P w (suc k) % (suc k * P)
  unfolding in_zone
  even_again zero h = one_zone P (wholeℕ P w 1) (pair_zone P 1 (wholeℕ P w 1 % P) (wholeℕ P w (max 0 1) % P))
  even_again (suc k) h =
      let n = suc (suc k) in
      rw (more k, swap (suc k), swap n, zone_is P (suc k) n (nearestℕ (n * (w * P)) units % P) (nearestℕ (suc k * (w * P)) units % P) p (zero-lt-suc (suc k)) (le_of_lt (mod-lt (nearestℕ (suc k * (w * P)) units) p)))
      (pair_even P (suc k) (w * P) (lit< tt) h)

  pub odd_again : (k : ℕ) → 2 * k < P → in_zone P (max k 1) (pair_zone P (suc k) (wholeℕ P w (suc k) % P) (wholeℕ P w (max k 1) % P)) (wholeℕ P w (max k 1) % P) ≡ wholeℕ P w (max k 1) % (max k 1 * P)
  unfolding in_zone
  odd_again zero h = one_zone P (wholeℕ P w (max 0 1)) (pair_zone P 1 (wholeℕ P w 1 % P) (wholeℕ P w (max 0 1) % P))
  odd_again (suc k) h =
      let n = suc (suc k) in
      rw (more k, swap (suc k), swap n, zone_is P (suc k) (suc k) (nearestℕ (n * (w * P)) units % P) (nearestℕ (suc k * (w * P)) units % P) p (zero-lt-suc k) (le_of_lt (mod-lt (nearestℕ (suc k * (w * P)) units) p)))
      (pair_odd P (suc k) (w * P) (lit< tt) h (zero-lt-suc k))

-- Longitude: the exact longitude of the message of either format, modulo 360 degrees
module _ (P NL x : ℕ) (p : 0 < P) (small : 2 * NL < P + 2) where
  counted : (n : ℕ) → count P n (pos x) ≡ wholeℕ P x n % P
  unfolding count modulo
  counted n = rw (whole_pos P n x)

  wholly : (n : ℕ) → modulo (whole P n (pos x)) (n * P) ≡ wholeℕ P x n % (n * P)
  unfolding modulo
  wholly n = rw (whole_pos P n x)

  pub longitude_again : 0 < NL → (f : Format) →
      pair_longitude P f NL (count P (longitude_zones Even NL) (pos x)) (count P (longitude_zones Odd NL) (pos x))
      ≡ modulo (whole P (longitude_zones f NL) (pos x)) (longitude_zones f NL * P)
  unfolding pair_longitude
  longitude_again some f =
      let k = NL - 1 in
      let eNL : NL ≡ suc k = omega arith in
      let ee : longitude_zones Even NL ≡ suc k = omega arith in
      let eo : longitude_zones Odd NL ≡ max k 1 = omega arith in
      rw (counted (longitude_zones Even NL), counted (longitude_zones Odd NL), wholly (longitude_zones f NL)) (by f k eNL ee eo)
    where
      by : (f : Format) (k : ℕ) → NL ≡ suc k → longitude_zones Even NL ≡ suc k → longitude_zones Odd NL ≡ max k 1 →
          in_zone P (longitude_zones f NL) (pair_zone P NL (wholeℕ P x (longitude_zones Even NL) % P) (wholeℕ P x (longitude_zones Odd NL) % P))
          (own f (wholeℕ P x (longitude_zones Even NL) % P) (wholeℕ P x (longitude_zones Odd NL) % P))
          ≡ wholeℕ P x (longitude_zones f NL) % (longitude_zones f NL * P)
      by Even k eNL ee eo = rw (ee, eo, eNL) (even_again P x p k (omega arith))
      by Odd k eNL ee eo = rw (ee, eo, eNL) (odd_again P x p k (omega arith))

-- a latitude from pole to pole comes back from its remainder
wrap : (M R : ℕ) → 3 * M ≤ 4 * R → 4 * R ≤ 5 * M → 0 < M → less360 M (R % M) ≡ sub_ℕ R M
wrap M R l h p =
    ⊎_elim
    (λ (g : M ≤ R).
    let e : R % M ≡ R - M = ap (λ (x : ℕ). x % M) {x = R} {y = R - M + M} (omega arith) ∙ add-mod_right (R - M) M ∙ mod-eq_of_lt (omega arith) in
    ap (less360 M) e ∙ less_low M (R - M) (omega arith) ∙ ap (λ (x : ℕ). sub_ℕ x M) {x = R - M + M} {y = R} (omega arith))
    (λ (g : R < M). ap (less360 M) (mod-eq_of_lt g) ∙ less_high M R l)
    (order R M)

pole_low : (z : ℤ) → T (pole_to_pole z) → 3221225472 ≤ raised z
pole_low (pos a) t = omega arith
pole_low (negsuc a) t = omega (arith, leb→le (suc a) 1073741824 t)

pole_high : (z : ℤ) → T (pole_to_pole z) → raised z ≤ 5368709120
pole_high (pos a) t = omega (arith, leb→le a 1073741824 t)
pole_high (negsuc a) t = omega arith

-- Latitude, from pole to pole, with counts of a size that is a multiple of 4, so that a pole is a whole number of counts
module _ (q : ℕ) (large : 118 < 4 * q) (latitude : ℤ) (t : T (pole_to_pole latitude)) where
  w : ℕ
  w = raised latitude

  low : 3 * units ≤ 4 * w
  unfolding w
  low = omega (arith, pole_low latitude t)

  high : 4 * w ≤ 5 * units
  unfolding w
  high = omega (arith, pole_high latitude t)

  is : sub_ℕ w units ≡ latitude
  unfolding w
  is = lowered latitude (pole_low latitude t) (pole_high latitude t)

  up : (N : ℕ) → 0 < N → whole (4 * q) N latitude ≡ sub_ℕ (wholeℕ (4 * q) w N) (N * (4 * q))
  up N h = ap (whole (4 * q) N) (sym is) ∙ whole_is (4 * q) N w (mul-pos h (omega arith))

  counts : (N : ℕ) → 0 < N → count (4 * q) N latitude ≡ wholeℕ (4 * q) w N % (4 * q)
  unfolding count
  counts N h = ap (λ (z : ℤ). modulo z (4 * q)) (up N h) ∙ sub_modulo (wholeℕ (4 * q) w N) N (4 * q) (omega arith)

  pub whole_inside : (N : ℕ) → 0 < N → inside (N * (4 * q)) (whole (4 * q) N latitude) ≡ true
  whole_inside N h =
      ap (inside (N * (4 * q))) (up N h) ∙ inside_yes (wholeℕ (4 * q) w N) (N * (4 * q)) (whole_low q N w low high) (whole_high q N w low high)

  kept : (N : ℕ) → 0 < N → less360 (N * (4 * q)) (wholeℕ (4 * q) w N % (N * (4 * q))) ≡ whole (4 * q) N latitude
  kept N h =
      wrap (N * (4 * q)) (wholeℕ (4 * q) w N) (whole_low q N w low high) (whole_high q N w low high) (mul-pos h (omega arith)) ∙ sym (up N h)

  -- the exact latitude of the message of either format
  pub latitude_again : (f : Format) → pair_latitude (4 * q) f (count (4 * q) 60 latitude) (count (4 * q) 59 latitude) ≡ whole (4 * q) (latitude_zones f) latitude
  unfolding pair_latitude
  latitude_again Even =
      rw (counts 60 (lit< tt), counts 59 (lit< tt))
      (ap (less360 (60 * (4 * q))) (even_again (4 * q) w (omega arith) 59 large) ∙ kept 60 (lit< tt))
  latitude_again Odd =
      rw (counts 60 (lit< tt), counts 59 (lit< tt))
      (ap (less360 (59 * (4 * q))) (odd_again (4 * q) w (omega arith) 59 large) ∙ kept 59 (lit< tt))
