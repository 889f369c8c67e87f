-- Whether 9 or 10 is tested first cannot be seen: where 9 is due, both latitudes have NL 1, so 10 is not.
-- Before the wrap at 270 degrees the two latitudes of any pair are at most half of one of 60 * 59 zones apart, 0.051 degrees:
-- so if one is past a pole, the other is past 87 degrees. All numbers are known but the two counts, so `omega` does the cases.
-- Assumes nothing.
use mathlib.Core.Path.{◌≡◌, sym, ap, ap₂, ◌∙◌}
use mathlib.Core.Bool.{false, ◌&&◌}
use mathlib.Core.Logic.{◌⊎◌, inl, inr, ⊎_elim}
use Prim.Native.Nat.{ℕ, ◌+◌, ◌-◌, ◌*◌, ◌/◌, ◌%◌, ◌≤◌, ◌<◌}
use native.Mathlib.Nat.{mod-lt}
use native.Mathlib.Omega.{arith}
use lib.Arith.{digits_mod}
use lib.Dec.{lit<, lit≤}
use lib.IntN.{nat_abs}
use borrow.Author.Tests.{leb-false}
use Rattle.positions.specs.declared.Format.TheVariants.{Even, Odd}
use Rattle.positions.specs.declared.Size.{Size}
use Rattle.positions.specs.declared.Size.TheVariants.{Fine, Coarse}
use Rattle.positions.specs.Whole.{modulo}
use Rattle.positions.specs.Code.{nearestℕ}
use Rattle.positions.specs.Zones.{latitudes, zone_count}
use Rattle.positions.specs.Positions.{count_size, inside, pair_zone, in_zone, less360, pair_latitude, pair_nl}
use Rattle.fields.proofs.Bools.{not_each}
use Rattle.positions.proofs.Shift.{order, abs_is}
use Rattle.positions.proofs.Naturals.{pair_zone_is, less_high, less_low}
use Rattle.positions.proofs.Latitudes.{latitudes_rise, passed, reached}
use Rattle.positions.proofs.Scaled.{count_scale, in_scale}

-- the positions x / (60 * 131072) and y / (59 * 131072) of 360 degrees are at most half of one of 60 * 59 zones apart
abbrev Close : ℕ → ℕ → Type 0
Close x y = (118 * x ≤ 120 * y + 131072) × (120 * y ≤ 118 * x + 131072)

-- the even position ve and the odd one vo, from the zone j, 60 * 59 zones up
module _ (a b j u t : ℕ) (ha : a < 131072) (hb : b < 131072) (lo : 262144 * j ≤ 118 * a + 927989760 + 131072 - 120 * b) (hi : 118 * a + 927989760 + 131072 - 120 * b < 262144 * j + 262144)
    (eu : u ≡ (j + 60) % 60) (et : t ≡ j % 59) where
  abbrev ve : ℕ
  ve = u * 131072 + a

  abbrev vo : ℕ
  vo = t * 131072 + b

  even_zone : (q r : ℕ) → j + 60 ≡ q * 60 + r → r < 60 → u ≡ r
  even_zone q r e h = eu ∙ ap (λ (y : ℕ). y % 60) e ∙ digits_mod q h

  odd_zone : (q r : ℕ) → j ≡ q * 59 + r → r < 59 → t ≡ r
  odd_zone q r e h = et ∙ ap (λ (y : ℕ). y % 59) e ∙ digits_mod q h

  -- at both ends the zones are the first and the last, so neither position is past a pole
  even_end : (j < 3481) ⊎ (3599 ≤ j) → (4 * ve < 7864320) ⊎ (23592960 < 4 * ve)
  even_end (inl h) = let z : u ≡ 0 = even_zone 59 0 (omega arith) (omega arith) in inl (omega arith)
  even_end (inr h) = let z : u ≡ 59 = even_zone 60 59 (omega arith) (omega arith) in inr (omega arith)

  odd_end : (j < 3481) ⊎ (3599 ≤ j) → (4 * vo < 7733248) ⊎ (23199744 < 4 * vo)
  odd_end (inl h) = let z : t ≡ 58 = odd_zone 58 58 (omega arith) (omega arith) in inr (omega arith)
  odd_end (inr h) = let z : t ≡ 0 = odd_zone 61 0 (omega arith) (omega arith) in inl (omega arith)

  middle : 3481 ≤ j → j < 3599 → Close ve vo
  middle l h =
      ⊎_elim
      (λ (g : 3540 ≤ j).
      let y : u ≡ j - 3540 = even_zone 60 (j - 3540) (omega arith) (omega arith) in
      let z : t ≡ j - 3540 = odd_zone 60 (j - 3540) (omega arith) (omega arith) in
      (omega arith, omega arith))
      (λ (g : j < 3540).
      let y : u ≡ j - 3480 = even_zone 59 (j - 3480) (omega arith) (omega arith) in
      let z : t ≡ j - 3481 = odd_zone 59 (j - 3481) (omega arith) (omega arith) in
      (omega arith, omega arith))
      (order j 3540)

  inner : (Past : Type 0) → ((j < 3481) ⊎ (3599 ≤ j) → Past → ⊥) → Past → Close ve vo
  inner Past ends past =
      ⊎_elim
      (λ (l : 3481 ≤ j). ⊎_elim (λ (h : 3599 ≤ j). absurd (ends (inr h) past)) (λ (h : j < 3599). middle l h) (order j 3599))
      (λ (l : j < 3481). absurd (ends (inl l) past))
      (order j 3481)

  pub even_past : 7864320 < 4 * ve → 4 * ve < 23592960 → Close ve vo
  even_past p q = inner ((7864320 < 4 * ve) × (4 * ve < 23592960)) (λ e past. ⊎_elim (λ h. omega arith) (λ h. omega arith) (even_end e)) (p, q)

  pub odd_past : 7733248 < 4 * vo → 4 * vo < 23199744 → Close ve vo
  odd_past p q = inner ((7733248 < 4 * vo) × (4 * vo < 23199744)) (λ e past. ⊎_elim (λ h. omega arith) (λ h. omega arith) (odd_end e)) (p, q)

-- how far from the equator the position v / M lies
abs_high : (M v : ℕ) → 3 * M ≤ 4 * v → nat_abs (less360 M v) ≡ (v - M) + (M - v)
abs_high M v h = ap nat_abs (less_high M v h) ∙ abs_is v M

abs_low : (M v : ℕ) → 4 * v < 3 * M → nat_abs (less360 M v) ≡ v
abs_low M v h = ap nat_abs (less_low M v h) ∙ abs_is (v + M) M ∙ omega arith

-- 9 is due from 90 to 270 degrees
past : (M v : ℕ) → v < M → inside M (less360 M v) ≡ false → (M < 4 * v) × (4 * v < 3 * M)
unfolding inside
past M v g e =
    let f : M < 4 * nat_abs (less360 M v) = leb-false (4 * nat_abs (less360 M v)) M e in
    ⊎_elim
    (λ (h : 3 * M ≤ 4 * v). absurd (omega (arith, abs_high M v h)))
    (λ (h : 4 * v < 3 * M). (omega (arith, abs_low M v h), h))
    (order (4 * v) (3 * M))

-- and NL is 1 from 87 to 273 degrees
one : (M v : ℕ) → v < M → 87 * M < 360 * v → 360 * v < 273 * M → zone_count M (less360 M v) ≡ 1
unfolding zone_count latitudes
one M v g l h =
    passed latitudes x M latitudes_rise 0 57 (lit≤ tt) (lit< tt) distant ∙ reached latitudes x M latitudes_rise 58 (lit≤ tt) (λ n. omega arith)
  where
    x : ℕ
    x = nat_abs (less360 M v) * 36000000000

    distant : 8700000000 * M < x
    distant =
        ⊎_elim
        (λ (f : 3 * M ≤ 4 * v). omega (arith, abs_high M v f))
        (λ (f : 4 * v < 3 * M). omega (arith, abs_low M v f))
        (order (4 * v) (3 * M))

module _ (a b : ℕ) (ha : a < 131072) (hb : b < 131072) where
  abbrev j : ℕ
  j = (2 * (a * 59 + 463994880 - b * 60) + 131072) / 262144

  abbrev u : ℕ
  u = modulo (pair_zone 131072 60 a b) 60

  abbrev t : ℕ
  t = modulo (pair_zone 131072 60 a b) 59

  t_is : t ≡ j % 59
  unfolding nearestℕ
  t_is = pair_zone_is 131072 60 59 a b (lit< tt) (lit< tt) (omega arith)

  u_is : u ≡ (j + 60) % 60
  unfolding nearestℕ
  u_is =
      pair_zone_is 131072 60 60 a b (lit< tt) (lit< tt) (omega arith)
      ∙ ap (λ (y : ℕ). y % 60) {x = (2 * (a * 59 + 471859200 - b * 60) + 131072) / 262144} {y = j + 60} (omega arith)

  u_lt : u < 60
  u_lt = rw u_is (mod-lt (j + 60) (lit< tt))

  t_lt : t < 59
  t_lt = rw t_is (mod-lt j (lit< tt))

  both_one : Close (u * 131072 + a) (t * 131072 + b) →
      ((7864320 < 4 * (u * 131072 + a)) × (4 * (u * 131072 + a) < 23592960)) ⊎ ((7733248 < 4 * (t * 131072 + b)) × (4 * (t * 131072 + b) < 23199744)) →
      pair_nl 131072 Even a b ≡ pair_nl 131072 Odd a b
  unfolding pair_nl pair_latitude in_zone
  both_one c p =
      let ue = u_lt in
      let te = t_lt in
      ⊎_elim
      (λ (f : (7864320 < 4 * (u * 131072 + a)) × (4 * (u * 131072 + a) < 23592960)).
      one 7864320 (u * 131072 + a) (omega arith) (omega arith) (omega arith) ∙ sym (one 7733248 (t * 131072 + b) (omega arith) (omega arith) (omega arith)))
      (λ (f : (7733248 < 4 * (t * 131072 + b)) × (4 * (t * 131072 + b) < 23199744)).
      one 7864320 (u * 131072 + a) (omega arith) (omega arith) (omega arith) ∙ sym (one 7733248 (t * 131072 + b) (omega arith) (omega arith) (omega arith)))
      p

  fine_order : (inside (60 * 131072) (pair_latitude 131072 Even a b) && inside (59 * 131072) (pair_latitude 131072 Odd a b)) ≡ false →
      pair_nl 131072 Even a b ≡ pair_nl 131072 Odd a b
  unfolding pair_latitude in_zone
  fine_order e =
      let ue = u_lt in
      let te = t_lt in
      ⊎_elim
      (λ (f : inside 7864320 (less360 7864320 (u * 131072 + a)) ≡ false).
      let p = past 7864320 (u * 131072 + a) (omega arith) f in
      both_one (even_past a b j u t ha hb (omega arith) (omega arith) u_is t_is p.0 p.1) (inl p))
      (λ (f : inside 7733248 (less360 7733248 (t * 131072 + b)) ≡ false).
      let p = past 7733248 (t * 131072 + b) (omega arith) f in
      both_one (odd_past a b j u t ha hb (omega arith) (omega arith) u_is t_is p.0 p.1) (inr p))
      (not_each (inside 7864320 (less360 7864320 (u * 131072 + a))) (inside 7733248 (less360 7733248 (t * 131072 + b))) e)

-- where either latitude is outside, the two have one NL; of coarse counts by the law of Scaled
pub nine_is_never_ten : (size : Size) (a b : ℕ) → a < count_size size → b < count_size size
    → (inside (60 * count_size size) (pair_latitude (count_size size) Even a b) && inside (59 * count_size size) (pair_latitude (count_size size) Odd a b)) ≡ false
    → pair_nl (count_size size) Even a b ≡ pair_nl (count_size size) Odd a b
nine_is_never_ten Fine a b ha hb e = fine_order a b ha hb e
nine_is_never_ten Coarse a b ha hb e =
    let zones = count_scale 32 (lit< tt) 4096 (lit< tt) in
    let tests = in_scale 32 (lit< tt) 4096 (lit< tt) in
    sym (zones Even a b) ∙ fine_order (a * 32) (b * 32) (omega arith) (omega arith) (ap₂ ◌&&◌ (tests Even a b) (tests Odd a b) ∙ e) ∙ zones Odd a b
