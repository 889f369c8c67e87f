-- TYPE, the subtype, the flag and the station of ME are bits of the message. Whether the traffic service sent a message, and whether it is a coarse one, is told by DF and CF.
-- Assumes nothing.
use Prim.Native.Nat.{ℕ, zero, suc, ◌<◌}
use mathlib.Core.Path.{◌≡◌, refl, ap, ap₂, ◌∙◌}
use mathlib.Core.Bool.{Bool, true, false, cond, ◌&&◌, ◌||◌}
use mathlib.Core.List.{List}
use native.Mathlib.Omega.{arith}
use lib.Dec.{eqb}
use borrow.Author.Tests.{ne_eqb}
use Rattle.fields.specs.Bytes.{number}
use Rattle.fields.specs.Packing.{field, me}
use Rattle.keys.specs.Keys.{is_traffic, is_coarse}
use Rattle.keys.specs.declared.Kind.{Kind}
use Rattle.keys.specs.declared.Kind.TheVariants.{I, T, M}
use Rattle.layouts.specs.Bodies.{layout_at, layout_by, type_by, flag_by, flag_in, station_in}
use Rattle.layouts.specs.declared.bodies.Layout.{Layout}
use Rattle.layouts.specs.declared.bodies.Layout.TheVariants as layout
use Rattle.messages.specs.Message.{bits, coarse_by, is_reserved, reserved_in, traffic_by, kind_by, kind_of, starts_by}
use Rattle.messages.specs.Said.{coarse_at, layout_in, type_at, flag_at, station_at}

-- ---- TYPE, the subtype, the flag and the station of ME, by the bits of the message

module _ (n : ℕ) where
  type_is : me 1 5 (field 112 33 88 n) ≡ field 112 33 37 n
  type_is = omega arith

  subtype_is : me 6 8 (field 112 33 88 n) ≡ field 112 38 40 n
  subtype_is = omega arith

  coarse_flag_is : me 1 1 (field 112 33 88 n) ≡ field 112 33 33 n
  coarse_flag_is = omega arith

  surface_is : me 21 21 (field 112 33 88 n) ≡ field 112 53 53 n
  surface_is = omega arith

  air_is : me 8 8 (field 112 33 88 n) ≡ field 112 40 40 n
  air_is = omega arith

  velocity_is : me 9 9 (field 112 33 88 n) ≡ field 112 41 41 n
  velocity_is = omega arith

  station_is : me 4 7 (field 112 33 88 n) ≡ field 112 36 39 n
  station_is = omega arith

module _ (s : List ℕ) where
  pub layout_in_lem : layout_by (coarse_at s) (bits 33 88 s) ≡ layout_in s
  layout_in_lem = ap (cond (coarse_at s) layout.Coarse) (ap₂ layout_at (type_is (number s)) (subtype_is (number s)))

  pub type_in_lem : type_by (coarse_at s) (bits 33 88 s) ≡ type_at s
  type_in_lem = ap (cond (coarse_at s) 0) (type_is (number s))

  pub flag_in_lem : flag_in (coarse_at s) (bits 33 88 s) ≡ flag_at s
  flag_in_lem =
      let n : ℕ = number s in
      let m : ℕ = bits 33 88 s in
      ap₂ (λ (l : Layout) (k : ℕ). flag_by l k (me 21 21 m) (me 8 8 m) (me 9 9 m)) layout_in_lem (coarse_flag_is n)
      ∙ ap (λ (k : ℕ). flag_by (layout_in s) (bits 33 33 s) k (me 8 8 m) (me 9 9 m)) (surface_is n)
      ∙ ap₂ (flag_by (layout_in s) (bits 33 33 s) (bits 53 53 s)) (air_is n) (velocity_is n)

  pub station_in_lem : station_in (coarse_at s) (bits 33 88 s) ≡ station_at s
  station_in_lem = ap (λ (k : ℕ). cond (coarse_at s) k 0) (station_is (number s))

  pub reserved_in_lem : reserved_in (bits 1 5 s) (bits 6 8 s) (bits 33 88 s) ≡ is_reserved (bits 1 5 s) (bits 6 8 s) (type_at s) (flag_at s)
  reserved_in_lem = ap₂ (is_reserved (bits 1 5 s) (bits 6 8 s)) type_in_lem flag_in_lem

-- ---- whether it is the traffic service's, and whether it is coarse, by DF and CF

-- T or M
by_flag : (t : Bool) → (is_traffic (cond t T M) ≡ true) × (is_coarse (cond t T M) ≡ false)
by_flag true = (refl, refl)
by_flag false = (refl, refl)

above : (m k : ℕ) → k < m → eqb m k ≡ false
above m k h = ne_eqb m k (λ e. omega arith)

-- what is told of a kind by CF
abbrev Told : ℕ → Kind → Type 0
Told control kind = (is_traffic kind ≡ (eqb control 2 || eqb control 3 || eqb control 5)) × (is_coarse kind ≡ eqb control 3)

by_control : (control flag station : ℕ) → Told control (kind_by control flag station)
by_control zero flag station = (refl, refl)
by_control (suc zero) flag station = (refl, refl)
by_control (suc (suc zero)) flag station = by_flag (eqb flag 0)
by_control (suc (suc (suc zero))) flag station = (refl, refl)
by_control (suc (suc (suc (suc zero)))) flag station = (refl, refl)
by_control (suc (suc (suc (suc (suc zero))))) flag station = (refl, refl)
by_control (suc (suc (suc (suc (suc (suc n)))))) flag station =
    let m : ℕ = suc (suc (suc (suc (suc (suc n))))) in
    let t : is_traffic (kind_by m flag station) ≡ (eqb m 2 || eqb m 3 || eqb m 5) = rw (above m 1 (omega arith), above m 2 (omega arith), above m 3 (omega arith), above m 5 (omega arith)) in
    let c : is_coarse (kind_by m flag station) ≡ eqb m 3 = rw (above m 1 (omega arith), above m 2 (omega arith), above m 3 (omega arith), above m 5 (omega arith)) in
    (t, c)

module _ (format control flag station : ℕ) where
  told : (is_traffic (kind_of format control flag station) ≡ traffic_by format control) × (is_coarse (kind_of format control flag station) ≡ coarse_by format control)
  unfolding kind_of
  told = by_format (eqb format 18)
    where
      by_format : (t : Bool) → (is_traffic (cond t (kind_by control flag station) I) ≡ (t && (eqb control 2 || eqb control 3 || eqb control 5))) × (is_coarse (cond t (kind_by control flag station) I) ≡ (t && eqb control 3))
      by_format true = by_control control flag station
      by_format false = (refl, refl)

  pub traffic_is : is_traffic (kind_of format control flag station) ≡ traffic_by format control
  traffic_is = told.0

  -- of kind C exactly with CF 3
  pub coarse_is : is_coarse (kind_of format control flag station) ≡ coarse_by format control
  coarse_is = told.1

-- ---- what may start a track, by equal tests and TYPEs

pub starts_alike : {a b c d : Bool} {m n : ℕ} → a ≡ b → c ≡ d → m ≡ n → starts_by a c m ≡ starts_by b d n
starts_alike p q r = ap₂ (λ (f : ℕ → Bool) (k : ℕ). f k) (ap₂ starts_by p q) r
