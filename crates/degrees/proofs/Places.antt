-- The two answers, from their parts: what the code found of each figure, and what the definitions say.
-- Assumes nothing.
use Rattle.std.specs.Prelude.{None, Ok, Err, Option, Some}
use Rattle.std.proofs.Common.{◌≡◌, ℕ, suc, ◌-◌, ◌%◌, ◌^◌, ◌<◌, Bool, true, false, cond, ◌&&◌, ℤ, pos, negsuc, nat_abs, sym, refl, ap, ◌∙◌, subst, true≢false, arith, ltb-true, lt-ltb, le-leb, leb-false, leb-true}
use lib.Signed.{mag}
use lib.Ieee.{Float}
use Rattle.refusals.specs.declared.Refusal.TheVariants as refusal
use Rattle.fields.proofs.Bools.{each}
use Rattle.positions.specs.declared.Spot.{Spot}
use Rattle.positions.specs.Whole.{modulo}
use Rattle.positions.specs.Positions.{units, pole_to_pole}
use Rattle.degrees.specs.declared.Degrees.{Degrees}
use Rattle.degrees.specs.Value.{degrees_of, Exactly, units_of}
use Rattle.degrees.specs.Ways.{centred, in_degrees, half_turn, place_of, from_degrees}
use Rattle.positions.specs.Said.{found_said}
use Rattle.degrees.specs.Said.{Same, in_degrees_said, DegreesIs, BackIs}
use Rattle.degrees.specs.Code.{WholeIs}
use Rattle.degrees.proofs.Exact.{says, exactly}
use Rattle.degrees.proofs.Signed.{east, west, centred_mag, quarter, quarter_mag, half}
use Rattle.degrees.proofs.Divided.{none_some, exact_units, units_exact}

-- ---- the way there

pub given_is : (s : Spot) (x y : Float) → pole_to_pole s.latitude ≡ true → x ≡ degrees_of s.latitude → y ≡ degrees_of (centred s.longitude)
    → Ok (record { latitude = x; longitude = y }) ≡ in_degrees s
unfolding in_degrees
given_is s x y t p q = rw (t, p, q)

pub refused_is : (s : Spot) → pole_to_pole s.latitude ≡ false → Err refusal.Field ≡ in_degrees s
unfolding in_degrees
refused_is s t = rw t

pub told : (s : Spot) → s.longitude < 2 ^ 32 → DegreesIs s (in_degrees_said (in_degrees s))
unfolding in_degrees
told s h = by_test (pole_to_pole s.latitude) refl
  where
    by_test : (b : Bool) → pole_to_pole s.latitude ≡ b
        → DegreesIs s (in_degrees_said (cond b (Ok (record { latitude = degrees_of s.latitude; longitude = degrees_of (centred s.longitude) })) (Err refusal.Field)))
    by_test true e =
        let l = leb-true (nat_abs s.latitude) 1073741824 e in
        record {
          in_latitude = l;
          in_longitude = h;
          latitude_is = exactly s.latitude (quarter s.latitude l);
          longitude_is = exactly (centred s.longitude) (half s.longitude h);
        }
    by_test false e = (refl, leb-false (nat_abs s.latitude) 1073741824 e)

-- ---- the way back, as the code finds it

module _ (d : Degrees) (w : Option ℤ) where
  pub no_latitude : WholeIs d.latitude w → w ≡ None → (s : Spot) → Same s d → ⊥
  no_latitude i e s t = subst (WholeIs d.latitude) e i s.latitude (quarter_mag s.latitude t.in_latitude) t.latitude_is

  pub no_longitude : WholeIs d.longitude w → w ≡ None → (s : Spot) → Same s d → ⊥
  no_longitude i e s t = subst (WholeIs d.longitude) e i (centred s.longitude) (centred_mag s.longitude t.in_longitude) t.longitude_is

-- a latitude beyond a pole
pub far : (d : Degrees) (n : ℤ) → Exactly d.latitude n → pole_to_pole n ≡ false → (s : Spot) → Same s d → ⊥
far d n v o s t =
    true≢false
    (sym (le-leb (nat_abs s.latitude) 1073741824 t.in_latitude) ∙ ap pole_to_pole (says d.latitude s.latitude n t.latitude_is v) ∙ o)

pub found_is : (d : Degrees) (n k : ℤ) (out : ℕ) → Exactly d.latitude n → Exactly d.longitude k → pole_to_pole n ≡ true → centred out ≡ k → out < 2 ^ 32
    → Same (record { latitude = n; longitude = out }) d
found_is d n k out v w t q h =
    record {
      in_latitude = leb-true (nat_abs n) 1073741824 t;
      in_longitude = h;
      latitude_is = v;
      longitude_is = subst (Exactly d.longitude) (sym q) w;
    }

-- ---- the way back, as it is defined

-- a number taken out is in its range, and taken in again is itself
back_in : (k : ℤ) → mag k < 2147483648 → (centred (modulo k units) ≡ k) × (modulo k units < 2 ^ 32)
unfolding modulo
back_in (pos a) h = (ap centred {x = a % units} {y = a} (omega arith) ∙ east a h, omega arith)
back_in (negsuc a) h =
    (west (units - suc (a % units)) (omega arith) (omega arith) ∙ ap negsuc {x = 4294967295 - (units - suc (a % units))} {y = a} (omega arith), omega arith)

some_same : (n k : ℤ) → Some n ≡ Some k → n ≡ k
some_same n k e = cc

module _ (d : Degrees) where
  -- of a place that has the doubles d the definition finds both numbers
  both_there : (s : Spot) → Same s d → (x y : Option ℤ) → units_of d.latitude ≡ x → units_of d.longitude ≡ y
      → (x ≡ Some s.latitude) × (y ≡ Some (centred s.longitude))
  both_there s t x y p q =
      (sym p ∙ exact_units d.latitude s.latitude t.latitude_is, sym q ∙ exact_units d.longitude (centred s.longitude) t.longitude_is)

  of_both : (x y : Option ℤ) → units_of d.latitude ≡ x → units_of d.longitude ≡ y → BackIs d (found_said (place_of x y))
  unfolding place_of
  of_both None y p q = (refl, λ s t. none_some s.latitude (both_there s t None y p q).0)
  of_both (Some n) None p q = (refl, λ s t. none_some (centred s.longitude) (both_there s t (Some n) None p q).1)
  of_both (Some n) (Some k) p q = by_test (pole_to_pole n && half_turn k) refl
    where
      by_test : (b : Bool) → (pole_to_pole n && half_turn k) ≡ b
          → BackIs d (found_said (cond b (Ok (record { latitude = n; longitude = modulo k units })) (Err refusal.Degrees)))
      by_test true e =
          let g = each (pole_to_pole n) (half_turn k) e in
          let b = back_in k (ltb-true (mag k) 2147483648 g.1) in
          found_is d n k (modulo k units) (units_exact d.latitude n p) (units_exact d.longitude k q) g.0 b.0 b.1
      by_test false e = (
        refl,
        λ s t.
            let g = both_there s t (Some n) (Some k) p q in
            let a : n ≡ s.latitude = some_same n s.latitude g.0 in
            let c : k ≡ centred s.longitude = some_same k (centred s.longitude) g.1 in
            true≢false
            (sym (rw (le-leb (nat_abs s.latitude) 1073741824 t.in_latitude, lt-ltb (mag (centred s.longitude)) 2147483648 (centred_mag s.longitude t.in_longitude)))
            ∙ ap (λ (z : ℤ). pole_to_pole z && half_turn (centred s.longitude)) (sym a)
            ∙ ap (λ (z : ℤ). pole_to_pole n && half_turn z) (sym c)
            ∙ e),
      )

  pub back_told : BackIs d (found_said (from_degrees d))
  unfolding from_degrees
  back_told = of_both (units_of d.latitude) (units_of d.longitude) refl refl
