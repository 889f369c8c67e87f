-- What both ways promise together: nothing is rounded, different places have different doubles, each way undoes the other, and which doubles never occur. By what the
-- doubles exactly are (proofs/Places), which says of which numbers (proofs/Exact).
-- Assumes nothing.
use Rattle.std.specs.Prelude.{Result, Ok, Err, Option, Some, None}
use Rattle.std.proofs.Common.{◌≡◌, ℕ, suc, ◌-◌, ◌^◌, ◌<◌, ◌≤◌, Bool, true, false, T, ◌⊎◌, ℤ, pos, negsuc, nat_abs, sym, refl, ap, ◌∙◌, subst, inl, inr, ⊎_elim, true≢false, arith, le-leb}
use mathlib.Core.Bool.{false≢true}
use lib.Ieee.{Float, nan, inf, fin, binary64, fits, round}
use Rattle.refusals.specs.Numbers.{number_of}
use Rattle.refusals.specs.Said.{Said, number, gives}
use Rattle.refusals.specs.declared.Refusal.TheVariants as refusal
use Rattle.refusals.proofs.Unique.{none_shared}
use Rattle.positions.specs.declared.Spot.{Spot}
use Rattle.positions.specs.Whole.{modulo}
use Rattle.positions.proofs.Shift.{order}
use Rattle.degrees.specs.declared.Degrees.{Degrees}
use Rattle.degrees.specs.Value.{under, degrees_of, units_of}
use Rattle.degrees.specs.Ways.{centred, in_degrees, place_of, from_degrees}
use Rattle.positions.specs.Said.{found_said}
use Rattle.degrees.specs.Said.{Same, in_degrees_said, DegreesIs, BackIs, Never}
use Rattle.degrees.proofs.Exact.{says}
use Rattle.degrees.proofs.Alone.{only}
use Rattle.degrees.proofs.Signed.{east, west, quarter, half}
use Rattle.degrees.proofs.Divided.{none_some, minus_zero, exact_units}
use Rattle.degrees.proofs.Places.{given_is, told, back_told}
use Rattle.refusals.specs.declared.Refusal.{Refusal}

-- what is handed out is exactly the place
pub exact : (s : Spot) (d : Degrees) → s.longitude < 2 ^ 32 → in_degrees s ≡ Ok d → Same s d
exact s d h e = subst (λ (r : Result Degrees Refusal). DegreesIs s (in_degrees_said r)) e (told s h)

-- ---- different places, different doubles

-- a longitude taken in says which it was
sides : (n : ℕ) → n < 2 ^ 32 → ((n < 2147483648) × (centred n ≡ pos n)) ⊎ ((2147483648 ≤ n) × (centred n ≡ negsuc (4294967295 - n)))
sides n h = ⊎_elim (λ l. inr (l, west n l h)) (λ l. inl (l, east n l)) (order n 2147483648)

centred_says : (a b : ℕ) → a < 2 ^ 32 → b < 2 ^ 32 → centred a ≡ centred b → a ≡ b
centred_says a b h k e = by_sides (sides a h) (sides b k)
  where
    by_sides : ((a < 2147483648) × (centred a ≡ pos a)) ⊎ ((2147483648 ≤ a) × (centred a ≡ negsuc (4294967295 - a)))
        → ((b < 2147483648) × (centred b ≡ pos b)) ⊎ ((2147483648 ≤ b) × (centred b ≡ negsuc (4294967295 - b))) → a ≡ b
    by_sides (inl p) (inl q) = let z : pos a ≡ pos b = sym p.1 ∙ e ∙ q.1 in cc
    by_sides (inl p) (inr q) = absurd (false≢true (ap under (sym p.1 ∙ e ∙ q.1)))
    by_sides (inr p) (inl q) = absurd (true≢false (ap under (sym p.1 ∙ e ∙ q.1)))
    by_sides (inr p) (inr q) =
        let z : suc (4294967295 - a) ≡ suc (4294967295 - b) = ap nat_abs (sym p.1 ∙ e ∙ q.1) in omega arith

same_place : (s t : Spot) (d : Degrees) → Same s d → Same t d → s ≡ t
same_place s t d p q =
    let a : s.latitude ≡ t.latitude = says d.latitude s.latitude t.latitude p.latitude_is q.latitude_is in
    let b : s.longitude ≡ t.longitude =
    centred_says s.longitude t.longitude p.in_longitude q.in_longitude
    (says d.longitude (centred s.longitude) (centred t.longitude) p.longitude_is q.longitude_is) in
    λ i. record { latitude = a i; longitude = b i }

pub apart : (s t : Spot) (d : Degrees) → s.longitude < 2 ^ 32 → t.longitude < 2 ^ 32 → in_degrees s ≡ Ok d → in_degrees t ≡ Ok d → s ≡ t
apart s t d h k e f = same_place s t d (exact s d h e) (exact t d k f)

-- ---- each way undoes the other

-- what the way back says in the rules' terms has one answer
pub back_unique : (d : Degrees) (a b : Said Spot) → BackIs d a → BackIs d b → a ≡ b
back_unique d (gives s) (gives t) p q = ap gives (same_place s t d p q)
back_unique d (gives s) (number n) p q = absurd (q.1 s p)
back_unique d (number n) (gives t) p q = absurd (p.1 t q)
back_unique d (number n) (number k) p q = ap number (p.0 ∙ sym q.0)

-- and so has the answer itself, for no two refusals share a number
said_same : (a b : Result Spot Refusal) → found_said a ≡ found_said b → a ≡ b
said_same (Ok s) (Ok t) e = let z : s ≡ t = cc in ap Ok z
said_same (Ok s) (Err k) e = let z : ◌≡◌ {A = ℕ} 0 1 = cc in absurd (omega arith)
said_same (Err r) (Ok t) e = let z : ◌≡◌ {A = ℕ} 0 1 = cc in absurd (omega arith)
said_same (Err r) (Err k) e = ap Err (none_shared r k (let z : number_of r ≡ number_of k = cc in z))

pub back_is : (d : Degrees) (a : Result Spot Refusal) → BackIs d (found_said a) → a ≡ from_degrees d
back_is d a p = said_same a (from_degrees d) (back_unique d (found_said a) (found_said (from_degrees d)) p (back_told d))

pub there_back : (s : Spot) (d : Degrees) → s.longitude < 2 ^ 32 → in_degrees s ≡ Ok d → from_degrees d ≡ Ok s
there_back s d h e = sym (back_is d (Ok s) (exact s d h e))

-- the doubles are of the format's range, as every f64 is
pub back_there : (s : Spot) (d : Degrees) → T (fits binary64 d.latitude) → T (fits binary64 d.longitude) → from_degrees d ≡ Ok s → in_degrees s ≡ Ok d
back_there s d p q e =
    let t : Same s d = subst (λ (a : Result Spot Refusal). BackIs d (found_said a)) e (back_told d) in
    sym (given_is s d.latitude d.longitude (le-leb (nat_abs s.latitude) 1073741824 t.in_latitude)
    (only d.latitude s.latitude (quarter s.latitude t.in_latitude) p t.latitude_is)
    (only d.longitude (centred s.longitude) (half s.longitude t.in_longitude) q t.longitude_is))

-- ---- which doubles never occur

module _ (x : Float) (e : units_of x ≡ None) where
  not_exactly : (y : Float) (n : ℤ) → units_of y ≡ Some n → y ≡ x → ⊥
  not_exactly y n p q = none_some n (sym e ∙ ap units_of (sym q) ∙ p)

  last_none : (a : Option ℤ) → place_of a None ≡ Err refusal.Degrees
  unfolding place_of
  last_none None = refl
  last_none (Some n) = refl

  never : Never x
  unfolding from_degrees place_of
  never =
      record {
        out = λ s d h g.
            let t = exact s d h g in (
              not_exactly d.latitude s.latitude (exact_units d.latitude s.latitude t.latitude_is),
              not_exactly d.longitude (centred s.longitude) (exact_units d.longitude (centred s.longitude) t.longitude_is),
            );
        north = λ y. ap (λ (o : Option ℤ). place_of o (units_of y)) e;
        east = λ y. ap (place_of (units_of y)) e ∙ last_none (units_of y);
      }

pub never_nan : Never nan
unfolding units_of
never_nan = never nan refl

pub never_infinite : (s : Bool) → Never (inf s)
unfolding units_of
never_infinite s = never (inf s) refl

-- of zero the exponent says nothing
pub never_minus_zero : (e : ℤ) → Never (fin true 0 e)
never_minus_zero e = never (fin true 0 e) (minus_zero e)

-- ---- worked: 0, both poles, half a turn, and a unit either side of zero; and back

pub worked : (degrees_of (pos 0) ≡ fin false 0 (pos 0)) × (degrees_of (pos 1073741824) ≡ fin false 45 (pos 1)) × (degrees_of (negsuc 1073741823) ≡ fin true 45 (pos 1))
    × (degrees_of (negsuc 2147483647) ≡ fin true 45 (pos 2)) × (degrees_of (pos 1) ≡ fin false 45 (negsuc 28)) × (degrees_of (negsuc 0) ≡ fin true 45 (negsuc 28))
unfolding degrees_of round
worked = (refl, refl, refl, refl, refl, refl)

abbrev at : Float → Float → Degrees
at x y = record { latitude = x; longitude = y }

-- a unit past the north pole is a longitude and no latitude; 180 degrees are none, and -180 are 2^31
pub worked_back : (from_degrees (at (fin false 48318382125 (negsuc 28)) (fin false 0 (pos 0))) ≡ Err refusal.Degrees)
    × (from_degrees (at (fin false 0 (pos 0)) (fin false 48318382125 (negsuc 28))) ≡ Ok (record { latitude = pos 0; longitude = 1073741825 }))
    × (from_degrees (at (fin true 45 (pos 1)) (fin true 45 (pos 2))) ≡ Ok (record { latitude = negsuc 1073741823; longitude = 2147483648 }))
    × (from_degrees (at (fin true 45 (pos 1)) (fin false 45 (pos 2))) ≡ Err refusal.Degrees)
unfolding from_degrees place_of units_of modulo
worked_back = (refl, refl, refl, refl)
