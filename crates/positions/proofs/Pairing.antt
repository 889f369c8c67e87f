-- One place encoded by suc k and by k zones, and the two counts paired: the zone numbers come out exactly, modulo the zones.
-- Each rounded number times the other's zones differs by at most k, which is less than half a zone of P counts; so rounding the
-- zone number finds the whole number. Over any k, any count size P above 2 * k, any place x / (T * P).
-- Assumes nothing.
use mathlib.Core.Path.{◌≡◌, sym, ap, ◌∙◌}
use Prim.Native.Nat.{ℕ, suc, ◌+◌, ◌-◌, ◌*◌, ◌/◌, ◌%◌, ◌≤◌, ◌<◌}
use native.Mathlib.Nat.{mul-le-mul_left, mul-lt-mul_of_pos_left, lt_of_mul-lt-mul_left, le_of_mul-le-mul_left, le_of_lt, zero-lt-suc, add-mul-div_right, mod-lt, div-add-mod', add-mul-mod_self_left, mul-le-mul_right, div-eq_of_lt-le}
use native.Mathlib.Omega.{arith}
use lib.Arith.{mod-mul}
use Rattle.positions.specs.Code.{nearestℕ}
use Rattle.positions.proofs.Rounding.{twice_pos, near_low, near_high}

-- the zone number over naturals, modulo z; the multiple suc k * z of z keeps the difference from falling below zero
unfoldable pub zone_of : ℕ → ℕ → ℕ → ℕ → ℕ → ℕ
zone_of P k z a b = nearestℕ (k * a + suc k * z * P - suc k * b) P % z

-- the two rounded numbers, each times the other's zones, differ by at most k
module _ (k x : ℕ) {T : ℕ} (h : 0 < T) where
  cross_low : k * nearestℕ (suc k * x) T ≤ suc k * nearestℕ (k * x) T + k
  cross_low =
      let l : k * (2 * (T * nearestℕ (suc k * x) T)) ≤ k * (2 * (suc k * x) + T) = mul-le-mul_left k (near_low (suc k * x) h) in
      let g : suc k * (2 * (k * x) + T) < suc k * (2 * (T * nearestℕ (k * x) T) + 2 * T) = mul-lt-mul_of_pos_left (near_high (k * x) h) (zero-lt-suc k) in
      let t : T * (2 * (k * nearestℕ (suc k * x) T)) < T * (2 * (suc k * nearestℕ (k * x) T) + (2 * k + 1)) = omega arith in
      omega (arith, lt_of_mul-lt-mul_left T t)

  cross_high : suc k * nearestℕ (k * x) T ≤ k * nearestℕ (suc k * x) T + k
  cross_high =
      let l : suc k * (2 * (T * nearestℕ (k * x) T)) ≤ suc k * (2 * (k * x) + T) = mul-le-mul_left (suc k) (near_low (k * x) h) in
      let g : k * (2 * (suc k * x) + T) ≤ k * (2 * (T * nearestℕ (suc k * x) T) + 2 * T) = mul-le-mul_left k (le_of_lt (near_high (suc k * x) h)) in
      let t : T * (2 * (suc k * nearestℕ (k * x) T)) ≤ T * (2 * (k * nearestℕ (suc k * x) T) + (2 * k + 1)) = omega arith in
      omega (arith, le_of_mul-le-mul_left t h)

-- the zone number of the pair, before the modulo: with r and s the rounded numbers, r / P and s / P their zones
module _ (P k z r s : ℕ) (small : 2 * k < P) (some : 0 < z) (low : k * r ≤ suc k * s + k) (high : suc k * s ≤ k * r + k) where
  zone_sum : (2 * (k * (r % P) + suc k * z * P - suc k * (s % P)) + P) / (2 * P) + k * (r / P) ≡ suc k * (z + s / P)
  zone_sum =
      let p : 0 < P = omega arith in
      let rs : k * (r / P * P + r % P) ≡ k * r = ap (λ (y : ℕ). k * y) (div-add-mod' r P) in
      let ss : suc k * (s / P * P + s % P) ≡ suc k * s = ap (λ (y : ℕ). suc k * y) (div-add-mod' s P) in
      let zP : 1 * P ≤ z * P = mul-le-mul_right P some in
      let g : suc k * (s % P) ≤ suc k * (z * P) = mul-le-mul_left (suc k) (omega (arith, mod-lt s p)) in
      let D : ℕ = 2 * (k * (r % P) + suc k * z * P - suc k * (s % P)) + P in
      let l : suc k * (z + s / P) * (2 * P) ≤ D + k * (r / P) * (2 * P) = omega arith in
      let u : D + k * (r / P) * (2 * P) < (suc k * (z + s / P) + 1) * (2 * P) = omega arith in
      sym (add-mul-div_right D (k * (r / P)) (twice_pos p)) ∙ div-eq_of_lt-le (2 * P) l u

-- j + k * a is a multiple of suc k: j is a modulo suc k
mod_even : (k j a q : ℕ) → j + k * a ≡ suc k * q → j % suc k ≡ a % suc k
mod_even k j a q e =
    let e' : j + suc k * a ≡ a + suc k * q = omega arith in
    sym (add-mul-mod_self_left j (suc k) a) ∙ ap (λ (y : ℕ). y % suc k) e' ∙ add-mul-mod_self_left a (suc k) q

-- j + k * a is k * (k + b) + (k + b): j is b modulo k
mod_odd : (k j a b : ℕ) → j + k * a ≡ suc k * (k + b) → j % k ≡ b % k
mod_odd k j a b e =
    let e' : j + k * a ≡ b + k * (suc k + b) = omega arith in
    sym (add-mul-mod_self_left j k a) ∙ ap (λ (y : ℕ). y % k) e' ∙ add-mul-mod_self_left b k (suc k + b)

module _ (P k x : ℕ) {T : ℕ} (h : 0 < T) (small : 2 * k < P) where
  -- the even message
  pub pair_even : zone_of P k (suc k) (nearestℕ (suc k * x) T % P) (nearestℕ (k * x) T % P) * P + nearestℕ (suc k * x) T % P ≡ nearestℕ (suc k * x) T % (suc k * P)
  unfolding zone_of nearestℕ
  pair_even =
      let r : ℕ = nearestℕ (suc k * x) T in
      let s : ℕ = nearestℕ (k * x) T in
      let j : ℕ = (2 * (k * (r % P) + suc k * suc k * P - suc k * (s % P)) + P) / (2 * P) in
      let e : j + k * (r / P) ≡ suc k * (suc k + s / P) = zone_sum P k (suc k) r s small (zero-lt-suc k) (cross_low k x h) (cross_high k x h) in
      ap (λ (y : ℕ). y * P + r % P) (mod_even k j (r / P) (suc k + s / P) e) ∙ sym (mod-mul r (zero-lt-suc k) (omega arith))

  -- the odd message, of k zones
  pub pair_odd : 0 < k → zone_of P k k (nearestℕ (suc k * x) T % P) (nearestℕ (k * x) T % P) * P + nearestℕ (k * x) T % P ≡ nearestℕ (k * x) T % (k * P)
  unfolding zone_of nearestℕ
  pair_odd some =
      let r : ℕ = nearestℕ (suc k * x) T in
      let s : ℕ = nearestℕ (k * x) T in
      let j : ℕ = (2 * (k * (r % P) + suc k * k * P - suc k * (s % P)) + P) / (2 * P) in
      let e : j + k * (r / P) ≡ suc k * (k + s / P) = zone_sum P k k r s small some (cross_low k x h) (cross_high k x h) in
      ap (λ (y : ℕ). y * P + s % P) (mod_odd k j (r / P) (s / P) e) ∙ sym (mod-mul s some (omega arith))
