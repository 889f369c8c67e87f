-- Counts of a smaller size are counts of a larger one: at the size P * k and at counts times k every definition is what it is at P.
-- So counts of 2^12 are read by the code for 2^17, as counts times 32.
-- Assumes nothing.
use mathlib.Core.Path.{◌≡◌, refl, sym, ap, ap₂, subst, ◌∙◌}
use mathlib.Core.Bool.{Bool, cond, ◌&&◌}
use mathlib.Core.List.{List, [], ◌∷◌}
use mathlib.Core.Logic.{⊎_elim}
use Prim.Native.Nat.{ℕ, zero, suc, ◌+◌, ◌-◌, ◌*◌, ◌/◌, ◌%◌, ◌≤◌, ◌<◌}
use native.Mathlib.Nat.{mul-pos, mul-le-mul_left, mul-le-mul_right, mul-lt-mul_of_pos_right, mul-div-mul_right, mul-div_cancel, mul-mod_left}
use native.Mathlib.Omega.{arith}
use lib.Arith.{mod-mul}
use lib.Dec.{leb, ltb, lit<}
use lib.IntN.{ℤ, pos, negsuc, nat_abs, neg_ℤ, sub_ℕ, ◌+ℤ◌, ◌-ℤ◌, ◌*ℤ◌}
use borrow.Author.Tests.{le-leb, lt-leb, lt-ltb, le-ltb}
use Rattle.positions.specs.declared.Spot.{Spot}
use Rattle.positions.specs.declared.Turn.{Turn}
use Rattle.positions.specs.declared.Turn.TheVariants.{Airborne, Surface}
use Rattle.positions.specs.declared.Format.{Format}
use Rattle.positions.specs.declared.Format.TheVariants.{Even, Odd}
use Rattle.positions.specs.declared.Counts.{Counts}
use Rattle.positions.specs.Whole.{modulo, nearest}
use Rattle.positions.specs.Code.{factor, times, IsSize, nearestℕ, Polar}
use Rattle.positions.specs.declared.Size.{Size}
use Rattle.positions.specs.declared.Size.TheVariants.{Fine, Coarse}
use Rattle.positions.specs.Zones.{latitudes, first, zone_count}
use Rattle.positions.specs.Positions.{count_size, units, own, latitude_zones, longitude_zones, all_round, rounded, rounded_turn, inside, pair_zone, in_zone, less360, pair_latitude, pair_longitude, pair_nl, pair_spot, pair_found, fit, paired, near_zone, near, near_spot, near_found, singly}
use Rattle.positions.proofs.Shift.{order, sub_eq, sub_add, sub_less, pos_sub, sub_mul, sub_modulo, sub_nearest, lifted, lifted_is}
use Rattle.positions.proofs.Naturals.{less_high, less_low}
use Rattle.positions.proofs.Answers.{same}

-- there are zones
pub some_zones : (f : Format) → 0 < latitude_zones f
some_zones Even = lit< tt
some_zones Odd = lit< tt

pub some_round : (turn : Turn) (z : ℕ) → 0 < z → 0 < all_round turn z
unfolding all_round
some_round Airborne z h = omega arith
some_round Surface z h = omega arith

neg_abs : (n : ℕ) → nat_abs (neg_ℤ (pos n)) ≡ n
neg_abs zero = refl
neg_abs (suc n) = refl

module _ (k : ℕ) (some : 0 < k) where
  -- ---- tests

  leb_scale : (a b : ℕ) → leb (a * k) (b * k) ≡ leb a b
  leb_scale a b =
      ⊎_elim
      (λ (h : a ≤ b). le-leb (a * k) (b * k) (mul-le-mul_right k h) ∙ sym (le-leb a b h))
      (λ (h : b < a). lt-leb (a * k) (b * k) (mul-lt-mul_of_pos_right h some) ∙ sym (lt-leb a b h))
      (order b a)

  ltb_scale : (a b : ℕ) → ltb (a * k) (b * k) ≡ ltb a b
  ltb_scale a b =
      ⊎_elim
      (λ (h : b ≤ a). le-ltb (a * k) (b * k) (mul-le-mul_right k h) ∙ sym (le-ltb a b h))
      (λ (h : a < b). lt-ltb (a * k) (b * k) (mul-lt-mul_of_pos_right h some) ∙ sym (lt-ltb a b h))
      (order a b)

  -- ---- whole numbers

  lift_by : (z : ℤ) (d : ℕ) → 0 < d → sub_ℕ (lifted z (nat_abs z * d)) (nat_abs z * d) ≡ z
  lift_by z d p = lifted_is z (nat_abs z * d) (omega (arith, mul-le-mul_left (nat_abs z) p))

  nearestℕ_scale : (a d : ℕ) → nearestℕ (a * k) (d * k) ≡ nearestℕ a d
  unfolding nearestℕ
  nearestℕ_scale a d =
      ap (λ (y : ℕ). y / (2 * (d * k))) {x = 2 * (a * k) + d * k} {y = (2 * a + d) * k} (omega arith)
      ∙ ap (λ (y : ℕ). (2 * a + d) * k / y) {x = 2 * (d * k)} {y = 2 * d * k} (omega arith)
      ∙ mul-div-mul_right (2 * a + d) (2 * d) some

  times_lifted : (a m d : ℕ) → sub_ℕ a (m * d) *ℤ pos k ≡ sub_ℕ (a * k) (m * (d * k))
  times_lifted a m d = sub_mul a (m * d) k some ∙ sub_eq (a * k) (m * d * k) (a * k) (m * (d * k)) (omega arith)

  nearest_scale : (z : ℤ) (d : ℕ) → 0 < d → nearest (z *ℤ pos k) (d * k) ≡ nearest z d
  nearest_scale z d p =
      let m : ℕ = nat_abs z in
      let a : ℕ = lifted z (m * d) in
      ap (λ (y : ℤ). nearest (y *ℤ pos k) (d * k)) (sym (lift_by z d p))
      ∙ ap (λ (y : ℤ). nearest y (d * k)) (times_lifted a m d)
      ∙ sub_nearest (a * k) m (d * k) (mul-pos p some)
      ∙ ap (λ (y : ℕ). sub_ℕ y m) (nearestℕ_scale a d)
      ∙ sym (sub_nearest a m d p)
      ∙ ap (λ (y : ℤ). nearest y d) (lift_by z d p)

  modulo_scale : (z : ℤ) (d : ℕ) → 0 < d → modulo (z *ℤ pos k) (d * k) ≡ modulo z d * k
  modulo_scale z d p =
      let m : ℕ = nat_abs z in
      let a : ℕ = lifted z (m * d) in
      ap (λ (y : ℤ). modulo (y *ℤ pos k) (d * k)) (sym (lift_by z d p))
      ∙ ap (λ (y : ℤ). modulo y (d * k)) (times_lifted a m d)
      ∙ sub_modulo (a * k) m (d * k) (mul-pos p some)
      ∙ mod-mul (a * k) p some
      ∙ ap₂ (λ (x y : ℕ). x % d * k + y) (mul-div_cancel a some) (mul-mod_left a k)
      ∙ omega arith
      ∙ ap (λ (y : ℕ). y * k) (sym (sub_modulo a m d p) ∙ ap (λ (y : ℤ). modulo y d) (lift_by z d p))

  abs_scale : (z : ℤ) → nat_abs (z *ℤ pos k) ≡ nat_abs z * k
  abs_scale (pos a) = refl
  abs_scale (negsuc a) = neg_abs (suc a * k)

  swap : (z : ℤ) (j : ℕ) → 0 < j → z *ℤ pos k *ℤ pos j ≡ z *ℤ pos j *ℤ pos k
  swap z j h =
      let m : ℕ = nat_abs z in
      let a : ℕ = lifted z m in
      let e : sub_ℕ a m ≡ z = lifted_is z m (omega arith) in
      ap (λ (y : ℤ). y *ℤ pos k *ℤ pos j) (sym e)
      ∙ ap (λ (y : ℤ). y *ℤ pos j) (sub_mul a m k some) ∙ sub_mul (a * k) (m * k) j h
      ∙ sub_eq (a * k * j) (m * k * j) (a * j * k) (m * j * k) (omega arith)
      ∙ sym (sub_mul (a * j) (m * j) k some) ∙ ap (λ (y : ℤ). y *ℤ pos k) (sym (sub_mul a m j h))
      ∙ ap (λ (y : ℤ). y *ℤ pos j *ℤ pos k) e

  -- ---- a latitude or longitude over M

  first_scale : (n : ℕ) (es : List ℕ) (x d : ℕ) → first n es (x * k) (d * k) ≡ first n es x d
  unfolding first
  first_scale n [] x d = refl
  first_scale n (e ∷ es) x d =
      ap₂ (λ (b : Bool) (r : ℕ). cond b n r) (ap (leb (x * k)) {x = e * (d * k)} {y = e * d * k} (omega arith) ∙ leb_scale x (e * d)) (first_scale (n - 1) es x d)

  zone_scale : (M : ℕ) (z : ℤ) → zone_count (M * k) (z *ℤ pos k) ≡ zone_count M z
  unfolding zone_count
  zone_scale M z =
      ap (λ (a : ℕ). first 59 latitudes (a * 36000000000) (M * k)) (abs_scale z)
      ∙ ap (λ (a : ℕ). first 59 latitudes a (M * k)) {x = nat_abs z * k * 36000000000} {y = nat_abs z * 36000000000 * k} (omega arith)
      ∙ first_scale 59 latitudes (nat_abs z * 36000000000) M

  inside_scale : (M : ℕ) (z : ℤ) → inside (M * k) (z *ℤ pos k) ≡ inside M z
  unfolding inside
  inside_scale M z =
      ap (λ (a : ℕ). leb (4 * a) (M * k)) (abs_scale z)
      ∙ ap (λ (a : ℕ). leb a (M * k)) {x = 4 * (nat_abs z * k)} {y = 4 * nat_abs z * k} (omega arith)
      ∙ leb_scale (4 * nat_abs z) M

  rounded_scale : (M : ℕ) → 0 < M → (z : ℤ) → rounded (M * k) (z *ℤ pos k) ≡ rounded M z
  unfolding rounded
  rounded_scale M p z = ap (λ (y : ℤ). nearest y (M * k)) (swap z units (lit< tt)) ∙ nearest_scale (z *ℤ pos units) M p

  turn_scale : (M : ℕ) → 0 < M → (r : ℕ) → rounded_turn (M * k) (r * k) ≡ rounded_turn M r
  unfolding rounded_turn
  turn_scale M p r = ap nat_abs (rounded_scale M p (pos r))

  less_scale : (M r : ℕ) → less360 (M * k) (r * k) ≡ less360 M r *ℤ pos k
  less_scale M r =
      ⊎_elim
      (λ (h : 3 * M ≤ 4 * r).
      less_high (M * k) (r * k) (omega (arith, mul-le-mul_right k h))
      ∙ sym (ap (λ (z : ℤ). z *ℤ pos k) (less_high M r h) ∙ sub_mul r M k some))
      (λ (h : 4 * r < 3 * M).
      less_low (M * k) (r * k) (omega (arith, mul-lt-mul_of_pos_right h some))
      ∙ ap (λ (x : ℕ). sub_ℕ x (M * k)) {x = r * k + M * k} {y = (r + M) * k} (omega arith)
      ∙ sym (ap (λ (z : ℤ). z *ℤ pos k) (less_low M r h) ∙ sub_mul (r + M) M k some))
      (order (4 * r) (3 * M))

  -- ---- a pair, at the size P

  module _ (P : ℕ) (p : 0 < P) where
    over : (N : ℕ) → N * (P * k) ≡ N * P * k
    over N = omega arith

    pair_zone_scale : (n a b : ℕ) → pair_zone (P * k) n (a * k) (b * k) ≡ pair_zone P n a b
    unfolding pair_zone
    pair_zone_scale n a b =
        ap (λ (z : ℤ). nearest z (P * k))
        (pos_sub (a * k * (n - 1)) (b * k * n)
        ∙ sub_eq (a * k * (n - 1)) (b * k * n) (a * (n - 1) * k) (b * n * k) (omega arith)
        ∙ sym (sub_mul (a * (n - 1)) (b * n) k some)
        ∙ ap (λ (z : ℤ). z *ℤ pos k) (sym (pos_sub (a * (n - 1)) (b * n))))
        ∙ nearest_scale (pos (a * (n - 1)) -ℤ pos (b * n)) P p

    in_zone_scale : (N : ℕ) (zone : ℤ) (c : ℕ) → in_zone (P * k) N zone (c * k) ≡ in_zone P N zone c * k
    unfolding in_zone
    in_zone_scale N zone c = omega arith

    own_scale : (f : Format) (a b : ℕ) → own f (a * k) (b * k) ≡ own f a b * k
    own_scale Even a b = refl
    own_scale Odd a b = refl

    latitude_scale : (f : Format) (a b : ℕ) → pair_latitude (P * k) f (a * k) (b * k) ≡ pair_latitude P f a b *ℤ pos k
    unfolding pair_latitude
    latitude_scale f a b =
        rw (pair_zone_scale 60 a b, own_scale f a b, in_zone_scale (latitude_zones f) (pair_zone P 60 a b) (own f a b), over (latitude_zones f))
        (less_scale (latitude_zones f * P) (in_zone P (latitude_zones f) (pair_zone P 60 a b) (own f a b)))

    longitude_scale : (f : Format) (NL a b : ℕ) → pair_longitude (P * k) f NL (a * k) (b * k) ≡ pair_longitude P f NL a b * k
    unfolding pair_longitude
    longitude_scale f NL a b =
        rw (pair_zone_scale NL a b, own_scale f a b) (in_zone_scale (longitude_zones f NL) (pair_zone P NL a b) (own f a b))

    pub count_scale : (f : Format) (a b : ℕ) → pair_nl (P * k) f (a * k) (b * k) ≡ pair_nl P f a b
    unfolding pair_nl
    count_scale f a b = rw (latitude_scale f a b, over (latitude_zones f)) (zone_scale (latitude_zones f * P) (pair_latitude P f a b))

    pub in_scale : (f : Format) (a b : ℕ) → inside (latitude_zones f * (P * k)) (pair_latitude (P * k) f (a * k) (b * k)) ≡ inside (latitude_zones f * P) (pair_latitude P f a b)
    in_scale f a b = rw (latitude_scale f a b, over (latitude_zones f)) (inside_scale (latitude_zones f * P) (pair_latitude P f a b))

    spot_scale : (f : Format) (r : ℤ) (NL a b : ℕ) → pair_spot (P * k) f (r *ℤ pos k) NL (a * k) (b * k) ≡ pair_spot P f r NL a b
    unfolding pair_spot
    spot_scale f r NL a b =
        same
        (ap (λ (M : ℕ). rounded M (r *ℤ pos k)) (over (latitude_zones f)) ∙ rounded_scale (latitude_zones f * P) (mul-pos (some_zones f) p) r)
        (ap₂ rounded_turn (over (longitude_zones f NL)) (longitude_scale f NL a b)
        ∙ turn_scale (longitude_zones f NL * P) (mul-pos {m = longitude_zones f NL} (omega arith) p) (pair_longitude P f NL a b))

    fit_scale : (c : Counts) → fit (P * k) (times k c) ≡ fit P c
    fit_scale c = ap₂ ◌&&◌ (ltb_scale c.latitude.0 P) (ltb_scale c.longitude.0 P)

    found_scale : (even odd : Counts) (later : Format) → pair_found (P * k) (times k even) (times k odd) later ≡ pair_found P even odd later
    unfolding pair_found
    found_scale even odd later =
        let a = even.latitude.0 in
        let b = odd.latitude.0 in
        rw (
          in_scale Even a b,
          in_scale Odd a b,
          count_scale Even a b,
          count_scale Odd a b,
          latitude_scale later a b,
          spot_scale later (pair_latitude P later a b) (pair_nl P Even a b) even.longitude.0 odd.longitude.0,
        )

    -- a pair of counts of the size P is the pair of those counts times k, of the size P * k
    pub paired_scale : (even odd : Counts) (later : Format) → paired (P * k) (times k even) (times k odd) later ≡ paired P even odd later
    paired_scale even odd later = rw (fit_scale even, fit_scale odd, found_scale even odd later)

    -- ---- one message near a reference

    near_zone_scale : (N : ℕ) → 0 < N → (reference : ℤ) (c : ℕ) → near_zone (P * k) N reference (c * k) ≡ near_zone P N reference c
    unfolding near_zone
    near_zone_scale N q reference c =
        let m : ℕ = nat_abs reference in
        let a : ℕ = lifted reference m in
        let e : sub_ℕ a m ≡ reference = lifted_is reference m (omega arith) in
        let np : 0 < N * P = mul-pos q p in
        ap (λ (y : ℤ). nearest y (units * (P * k)))
        (ap (λ (y : ℤ). y *ℤ pos (N * (P * k)) -ℤ pos (c * k * units)) (sym e)
        ∙ ap (λ (y : ℤ). y -ℤ pos (c * k * units)) (sub_mul a m (N * (P * k)) (mul-pos q (mul-pos p some)))
        ∙ sub_less (a * (N * (P * k))) (m * (N * (P * k))) (c * k * units)
        ∙ sub_eq (a * (N * (P * k))) (m * (N * (P * k)) + c * k * units) (a * (N * P) * k) ((m * (N * P) + c * units) * k) (omega arith)
        ∙ sym (sub_mul (a * (N * P)) (m * (N * P) + c * units) k some)
        ∙ ap (λ (y : ℤ). y *ℤ pos k) (sym (sub_less (a * (N * P)) (m * (N * P)) (c * units)) ∙ ap (λ (y : ℤ). y -ℤ pos (c * units)) (sym (sub_mul a m (N * P) np)))
        ∙ ap (λ (y : ℤ). (y *ℤ pos (N * P) -ℤ pos (c * units)) *ℤ pos k) e)
        ∙ ap (nearest ((reference *ℤ pos (N * P) -ℤ pos (c * units)) *ℤ pos k)) {x = units * (P * k)} {y = units * P * k} (omega arith)
        ∙ nearest_scale (reference *ℤ pos (N * P) -ℤ pos (c * units)) (units * P) (mul-pos (lit< tt) p)

    near_scale : (N : ℕ) → 0 < N → (reference : ℤ) (c : ℕ) → near (P * k) N reference (c * k) ≡ near P N reference c *ℤ pos k
    unfolding near
    near_scale N q reference c =
        let z : ℤ = near_zone P N reference c in
        let m : ℕ = nat_abs z in
        let a : ℕ = lifted z m in
        let e : sub_ℕ a m ≡ z = lifted_is z m (omega arith) in
        ap (λ (y : ℤ). y *ℤ pos (P * k) +ℤ pos (c * k)) (near_zone_scale N q reference c ∙ sym e)
        ∙ ap (λ (y : ℤ). y +ℤ pos (c * k)) (sub_mul a m (P * k) (mul-pos p some))
        ∙ sub_add (a * (P * k)) (m * (P * k)) (c * k)
        ∙ sub_eq (a * (P * k) + c * k) (m * (P * k)) ((a * P + c) * k) (m * P * k) (omega arith)
        ∙ sym (sub_mul (a * P + c) (m * P) k some)
        ∙ ap (λ (y : ℤ). y *ℤ pos k) (sym (sub_add (a * P) (m * P) c) ∙ ap (λ (y : ℤ). y +ℤ pos c) (sym (sub_mul a m P p)))
        ∙ ap (λ (y : ℤ). (y *ℤ pos P +ℤ pos c) *ℤ pos k) e

    near_spot_scale : (N n : ℕ) → 0 < N → 0 < n → (r : ℤ) (longitude c : ℕ) → near_spot (P * k) N (r *ℤ pos k) n longitude (c * k) ≡ near_spot P N r n longitude c
    unfolding near_spot
    near_spot_scale N n q q' r longitude c =
        same
        (ap (λ (M : ℕ). rounded M (r *ℤ pos k)) (over N) ∙ rounded_scale (N * P) (mul-pos q p) r)
        (ap₂ rounded_turn (over n) (ap₂ modulo (near_scale n q' (pos longitude) c) (over n) ∙ modulo_scale (near P n (pos longitude) c) (n * P) (mul-pos q' p))
        ∙ turn_scale (n * P) (mul-pos q' p) (modulo (near P n (pos longitude) c) (n * P)))

    near_found_scale : (N : ℕ) → 0 < N → (s : Spot) (c : Counts) (turn : Turn) (f : Format) → near_found (P * k) N s (times k c) turn f ≡ near_found P N s c turn f
    unfolding near_found
    near_found_scale N q s c turn f =
        let r : ℤ = near P N s.latitude c.latitude.0 in
        let NL : ℕ = zone_count (N * P) r in
        rw (
          near_scale N q s.latitude c.latitude.0,
          over N,
          inside_scale (N * P) r,
          zone_scale (N * P) r,
          near_spot_scale N (all_round turn (longitude_zones f NL)) q (some_round turn (longitude_zones f NL) (omega arith)) r s.longitude c.longitude.0,
        )

    pub singly_scale : (reference : Spot) (c : Counts) (turn : Turn) (f : Format) → singly (P * k) reference (times k c) turn f ≡ singly P reference c turn f
    singly_scale reference c turn f =
        rw (fit_scale c, near_found_scale (all_round turn (latitude_zones f)) (some_round turn (latitude_zones f) (some_zones f)) reference c turn f)

-- ---- counts of either size, read as fine ones

abbrev FoundAs : Counts → Counts → Format → ℕ → Type 0
FoundAs even odd later P = pair_found 131072 (times (131072 / P) even) (times (131072 / P) odd) later ≡ pair_found P even odd later

pub found_sized : (P : ℕ) → IsSize P → (even odd : Counts) (later : Format)
    → pair_found 131072 (times (131072 / P) even) (times (131072 / P) odd) later ≡ pair_found P even odd later
found_sized P size even odd later =
    ⊎_elim
    (λ (e : P ≡ 131072). subst (FoundAs even odd later) (sym e) (found_scale 1 (lit< tt) 131072 (lit< tt) even odd later))
    (λ (e : P ≡ 4096). subst (FoundAs even odd later) (sym e) (found_scale 32 (lit< tt) 4096 (lit< tt) even odd later))
    size

abbrev NearAs : Spot → Counts → Turn → Format → ℕ → Type 0
NearAs reference c turn f P =
    near_found 131072 (all_round turn (latitude_zones f)) reference (times (131072 / P) c) turn f ≡ near_found P (all_round turn (latitude_zones f)) reference c turn f

pub near_sized : (P : ℕ) → IsSize P → (reference : Spot) (c : Counts) (turn : Turn) (f : Format)
    → near_found 131072 (all_round turn (latitude_zones f)) reference (times (131072 / P) c) turn f ≡ near_found P (all_round turn (latitude_zones f)) reference c turn f
near_sized P size reference c turn f =
    let some = some_round turn (latitude_zones f) (some_zones f) in
    ⊎_elim
    (λ (e : P ≡ 131072). subst (NearAs reference c turn f) (sym e) (near_found_scale 1 (lit< tt) 131072 (lit< tt) (all_round turn (latitude_zones f)) some reference c turn f))
    (λ (e : P ≡ 4096). subst (NearAs reference c turn f) (sym e) (near_found_scale 32 (lit< tt) 4096 (lit< tt) (all_round turn (latitude_zones f)) some reference c turn f))
    size

-- the rounded latitude of a spot that is encoded: y over z * P, P counts to a zone, is y * k over z * 131072
factor_pos : (size : Size) → 0 < factor size
factor_pos Fine = lit< tt
factor_pos Coarse = lit< tt

both : (size : Size) → count_size size * factor size ≡ 131072
both Fine = refl
both Coarse = refl

module _ (size : Size) (z y P k : ℕ) (eP : P ≡ count_size size) (ek : k ≡ factor size) where
  k_pos : 0 < k
  k_pos = rw ek (factor_pos size)

  whole_k : z * P * k ≡ z * 131072
  whole_k = omega arith ∙ ap (λ (a : ℕ). z * a) (ap₂ (λ (a b : ℕ). a * b) eP ek ∙ both size)

  pub polar_fine : Polar (z * P) y → Polar (z * 131072) (y * k)
  polar_fine r =
      record {
        south = rw (← whole_k) (omega (arith, mul-le-mul_right k r.south));
        north = rw (← whole_k) (omega (arith, mul-le-mul_right k r.north));
      }

  pub zones_fine : zone_count (z * 131072) (sub_ℕ (y * k) (z * 131072)) ≡ zone_count (z * P) (sub_ℕ y (z * P))
  zones_fine =
      ap (λ (M : ℕ). zone_count M (sub_ℕ (y * k) M)) (sym whole_k)
      ∙ ap (zone_count (z * P * k)) (sym (sub_mul y (z * P) k k_pos))
      ∙ zone_scale k k_pos (z * P) (sub_ℕ y (z * P))
